-- What is known of a rule about moments. `may look` says that it may be asked of the look, and `sees look b` that b is one of its
-- answers.
use Rattle.std.specs.Prelude.{◌≡◌, ◌<◌, ◌≤◌, List, [], ◌∷◌, Bool, true, false}
use Rattle.kdf_director.specs.declared.halt.Halt.{Halt}
use Rattle.kdf_director.specs.declared.halt.Halt.TheVariants.{Never, Each, At}
use Rattle.kdf_watch.specs.Hits.{is_at}
use Rattle.kdf_watch.specs.declared.look.Look.{Look}

-- the ranges of a look
pub record IsLook (look : Look) : Type 0 where
  pub p : look.p < 4
  pub ran : look.ran ≤ 20000000
  pub at : look.at < 49152
  pub clock : look.clock ≤ 140737488355327

-- it may be asked of each look, and any two of its answers to one look are equal
pub record IsWatch (may : Look → Type 0) (sees : Look → Bool → Type 0) : Type 0 where
  pub askable : (look : Look) → IsLook look → may look
  pub one : (look : Look) (a b : Bool) → IsLook look → sees look a → sees look b → a ≡ b

-- it answered false of each of these
abbrev pub AreUnseen : (Look → Bool → Type 0) → List Look → Type 0
AreUnseen sees [] = Unit {0}
AreUnseen sees (look ∷ looks) = sees look false × AreUnseen sees looks

-- whether calls that stop so stop at a look
abbrev pub is_halt : Halt → Look → Bool
is_halt Never look = false
is_halt Each look = true
is_halt (At p at) look = is_at p at look

-- calls that stop so stop for the rule: of each other look its answer is false
pub record IsStopFor (sees : Look → Bool → Type 0) (halt : Halt) : Type 0 where
  pub may : halt ≡ Never → ⊥
  pub elsewhere : (look : Look) → IsLook look → is_halt halt look ≡ false → sees look false
