use Rattle.kdf_course.specs.Legal.{one_of}
use Rattle.kdf_course.proofs.Cuts.{legal-cut, whole-cut, journal-cut}
use Rattle.kdf_course.proofs.laws.cut.Goals as goal

pub returns-clause-legal : goal.returns-clause-legal
returns-clause-legal c = λ W notes n J l. legal-cut W (one_of notes) n J l

pub returns-clause-whole : goal.returns-clause-whole
returns-clause-whole c = λ W notes before later J l w. whole-cut W before later J l.in_form w

pub returns-clause-journal : goal.returns-clause-journal
returns-clause-journal c = λ W notes events earlier later J j is. journal-cut W (one_of notes) events earlier later J j is
