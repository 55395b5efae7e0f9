use Rattle.kdf_top.proofs.SavedRuns.{done_for, due_again, from_resume, from_run, further_of, one_report, only_for, resumed, whole_of}
use Rattle.kdf_top.proofs.laws.saved_again.Goals as goal

pub returns-clause-resumed : goal.returns-clause-resumed
returns-clause-resumed g c rule is bytes saved more kept made on = resumed _ is.words is.one bytes saved more kept made on

pub returns-clause-called : goal.returns-clause-called
returns-clause-called g c rule is bytes saved more kept made on within =
    (done_for _ is.words is.one bytes saved more kept made on within, only_for _ is.words is.one bytes saved more kept made on within)

pub returns-clause-run : goal.returns-clause-run
returns-clause-run g c rule is bytes saved more whole report kept machine made on run =
    from_run _ is.words is.one bytes saved more kept made on whole run report machine

pub returns-clause-resume : goal.returns-clause-resume
returns-clause-resume g c rule is bytes saved more whole report kept machine made on run =
    from_resume _ is.words is.one bytes saved more kept made on whole run report machine

pub returns-clause-report : goal.returns-clause-report
returns-clause-report g c rule is bytes saved more whole report other kept machine second made on run =
    one_report _ is.words is.one bytes saved more kept made on whole run report other machine second

pub returns-clause-due : goal.returns-clause-due
returns-clause-due g c rule is bytes saved more whole due kept made on run within few =
    due_again _ is.words is.one bytes saved more kept made on whole run within few due

pub returns-clause-rest : goal.returns-clause-rest
returns-clause-rest g c bytes more whole free on clear = further_of bytes more whole free on clear

pub returns-clause-whole : goal.returns-clause-whole
returns-clause-whole g c bytes more whole free on goes_on = whole_of bytes more whole free on goes_on
