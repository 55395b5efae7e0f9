use Rattle.std.proofs.Common.{refl}
use Rattle.std.specs.Fmt.{digits}
use Rattle.kdf_text.specs.Text.{octal}
use Rattle.kdf_code.specs.Code.{host_of}
use Rattle.kdf_processor.specs.State.{lendings}
use Rattle.kdf_report.specs.Devices.{device_lines, device_numbers}
use Rattle.kdf_report.specs.Text.{section}
use Rattle.kdf_report.proofs.examples.whole_section.Goals as goal

pub returns-clause-numbers : goal.returns-clause-numbers
unfolding digits octal host_of lendings device_lines device_numbers section
returns-clause-numbers c = refl

pub returns-clause-words : goal.returns-clause-words
unfolding digits octal host_of lendings device_lines device_numbers section
returns-clause-words c = refl

pub returns-clause-lines : goal.returns-clause-lines
unfolding digits octal host_of lendings device_lines device_numbers section
returns-clause-lines c = refl
