use Rattle.kdf_account.proofs.moments.write_entry.Goals as goal

pub returns-in-Ran : goal.returns-in-Ran
returns-in-Ran c = rw c.in-Ran.is (rw c.into.ensures at c.write_two.ensures)

pub returns-in-Answer : goal.returns-in-Answer
returns-in-Answer c = rw c.in-Answer.is c.write_two-in-Answer.ensures

pub returns-in-Take : goal.returns-in-Take
returns-in-Take c = rw c.in-Take.is (rw c.into-in-Take.ensures at c.write_two-in-Take.ensures)

pub returns-in-Give : goal.returns-in-Give
returns-in-Give c = rw c.in-Give.is (rw c.into-in-Give.ensures at c.write_two-in-Give.ensures)

pub returns-in-Ended : goal.returns-in-Ended
returns-in-Ended c = rw c.in-Ended.is (rw c.into-in-Ended.ensures at c.write_one.ensures)

pub returns-in-Lov : goal.returns-in-Lov
returns-in-Lov c = rw c.in-Lov.is (rw c.into-in-Lov.ensures at c.write_two-in-Lov.ensures)

pub returns-in-Busy : goal.returns-in-Busy
returns-in-Busy c = rw c.in-Busy.is (rw c.into-in-Busy.ensures at c.write_two-in-Busy.ensures)

pub returns-in-Idle : goal.returns-in-Idle
returns-in-Idle c = rw c.in-Idle.is (rw c.into-in-Idle.ensures at c.write_one-in-Idle.ensures)

pub returns-in-Move : goal.returns-in-Move
returns-in-Move c = rw c.in-Move.is (rw c.into-in-Move.ensures at c.write_two-in-Move.ensures)

pub returns-in-End : goal.returns-in-End
returns-in-End c = rw c.in-End.is (rw c.into-in-End.ensures at c.write_one-in-End.ensures)

pub returns-in-Clock : goal.returns-in-Clock
returns-in-Clock c = rw c.in-Clock.is c.write_one-in-Clock.ensures

pub returns-in-Swap : goal.returns-in-Swap
returns-in-Swap c = rw c.in-Swap.is (rw c.into-in-Swap.ensures at c.write_two-in-Swap.ensures)

pub returns-in-Start : goal.returns-in-Start
returns-in-Start c = rw c.in-Start.is c.write_three.ensures

pub returns-in-Fail : goal.returns-in-Fail
returns-in-Fail c = rw c.in-Fail.is (rw c.name.ensures at c.write_kind.ensures)

pub returns-in-Wait : goal.returns-in-Wait
returns-in-Wait c = rw c.in-Wait.is (rw c.name-in-Wait.ensures at c.write_kind-in-Wait.ensures)
