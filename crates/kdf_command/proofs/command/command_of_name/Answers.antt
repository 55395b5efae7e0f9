use Rattle.kdf_command.proofs.NamedCommands.{bare_is, check_is, named, resume_is, run_is, save_is}
use Rattle.kdf_command.proofs.command.command_of_name.Goals as goal

pub returns-in-run-clause-value : goal.returns-in-run-clause-value
returns-in-run-clause-value c = bare_is _ _ _ _ _ c.in-run.is run_is c.bare.ensures

pub returns-in-save-clause-value : goal.returns-in-save-clause-value
returns-in-save-clause-value c = bare_is _ _ _ _ _ c.in-save.is save_is c.bare-in-save.ensures

pub returns-in-resume-clause-value : goal.returns-in-resume-clause-value
returns-in-resume-clause-value c = bare_is _ _ _ _ _ c.in-resume.is resume_is c.bare-in-resume.ensures

pub returns-in-check-clause-value : goal.returns-in-check-clause-value
returns-in-check-clause-value c = bare_is _ _ _ _ _ c.in-check.is check_is c.bare-in-check.ensures

pub returns-in-alone-clause-value : goal.returns-in-alone-clause-value
returns-in-alone-clause-value c = named _ _ _ _ c.in-alone.is c.alone.ensures.value

pub returns-in-asm-clause-value : goal.returns-in-asm-clause-value
returns-in-asm-clause-value c = named _ _ _ _ c.in-asm.is c.asm.ensures.value

pub returns-in-make-clause-value : goal.returns-in-make-clause-value
returns-in-make-clause-value c = named _ _ _ _ c.in-make.is c.make.ensures.value

pub returns-in-watch-clause-value : goal.returns-in-watch-clause-value
returns-in-watch-clause-value c = named _ _ _ _ c.in-watch.is c.watch.ensures.value
