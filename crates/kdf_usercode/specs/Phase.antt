-- How far a deck has come, and which statement may stand where.
use Rattle.std.specs.Prelude.{Bool, true, false, not, ◌&&◌, List, get_or, set, replicate, ℕ, Option, Some, None}
use Rattle.kdf_usercode.specs.declared.phase.Stage.{Stage}
use Rattle.kdf_usercode.specs.declared.phase.Stage.TheVariants.{Heading, Constants, Body, Ended}
use Rattle.kdf_usercode.specs.declared.phase.Phase.{Phase}
use Rattle.kdf_usercode.specs.declared.forms.Form.{Form}
use Rattle.kdf_usercode.specs.declared.forms.Form.TheVariants.{Program, ProgramStores, Part, PartStores, Finish, Constant, Access}
use Rattle.kdf_usercode.specs.Forms.{is_constant}
use Rattle.kdf_usercode.specs.Stores.{declared_group}

abbrev pub ends : Stage → Bool
ends Ended = true
ends stage = false

abbrev pub is_ended : Phase → Bool
is_ended phase = ends phase.stage

-- at the begin of a deck no group is declared
unfoldable pub start : Phase
start = record { stage = Heading; declared = replicate 27 false }

-- ---- the sequence

-- this is a group, and one that isn't declared yet
abbrev pub is_new : List Bool → Option ℕ → Bool
is_new declared None = false
is_new declared (Some group) = not (get_or declared group false)

-- what may stand before PROGRAM, and PROGRAM itself
abbrev pub is_heading : List Bool → Form → Bool
is_heading declared Program = true
is_heading declared ProgramStores = true
is_heading declared (Access direction name suffix) =
    is_new declared (declared_group direction name suffix)
is_heading declared form = false

abbrev pub is_program : Form → Bool
is_program Program = true
is_program ProgramStores = true
is_program form = false

abbrev pub in_stage : Stage → List Bool → Form → Bool
in_stage Heading declared form = is_heading declared form
in_stage Constants declared form = not (is_program form)
in_stage stage declared form = not (is_program form) && not (is_constant form)

-- a statement of this form stands in its place
abbrev pub is_in_place : Phase → Form → Bool
is_in_place phase form = in_stage phase.stage phase.declared form

-- ---- one statement more

abbrev pub behind_constants : Stage → Stage
behind_constants Constants = Body
behind_constants stage = stage

abbrev pub stage_with : Stage → Form → Stage
stage_with stage Program = Constants
stage_with stage ProgramStores = Constants
stage_with stage Part = Constants
stage_with stage PartStores = Constants
stage_with stage Finish = Ended
stage_with stage (Constant value) = stage
stage_with stage form = behind_constants stage

abbrev pub with_group : List Bool → Option ℕ → List Bool
with_group declared None = declared
with_group declared (Some group) = set declared group true

abbrev pub declared_with : List Bool → Form → List Bool
declared_with declared (Access direction name suffix) =
    with_group declared (declared_group direction name suffix)
declared_with declared form = declared

abbrev pub phase_with : Phase → Form → Phase
phase_with phase form = record {
  stage = stage_with phase.stage form;
  declared = declared_with phase.declared form;
}
