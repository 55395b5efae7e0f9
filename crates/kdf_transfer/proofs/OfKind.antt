-- A device of a kind.
use Rattle.std.proofs.Common.{◌≡◌, true, Option, Some, None, refl}
use Rattle.kdf_journal.specs.declared.kind.Kind.{Kind}
use Rattle.kdf_journal.specs.declared.kind.Kind.TheVariants.{Tr, Tp, Cr, Lp, Mt}
use Rattle.kdf_transfer.specs.Devices.{is_kind}

pub exact : (kind : Kind) (o : Option Kind) → is_kind kind o ≡ true → o ≡ Some kind
exact kind None e = absurd cc
exact Tr (Some Tr) e = refl
exact Tr (Some Tp) e = absurd cc
exact Tr (Some Cr) e = absurd cc
exact Tr (Some Lp) e = absurd cc
exact Tr (Some Mt) e = absurd cc
exact Tp (Some Tr) e = absurd cc
exact Tp (Some Tp) e = refl
exact Tp (Some Cr) e = absurd cc
exact Tp (Some Lp) e = absurd cc
exact Tp (Some Mt) e = absurd cc
exact Cr (Some Tr) e = absurd cc
exact Cr (Some Tp) e = absurd cc
exact Cr (Some Cr) e = refl
exact Cr (Some Lp) e = absurd cc
exact Cr (Some Mt) e = absurd cc
exact Lp (Some Tr) e = absurd cc
exact Lp (Some Tp) e = absurd cc
exact Lp (Some Cr) e = absurd cc
exact Lp (Some Lp) e = refl
exact Lp (Some Mt) e = absurd cc
exact Mt (Some Tr) e = absurd cc
exact Mt (Some Tp) e = absurd cc
exact Mt (Some Cr) e = absurd cc
exact Mt (Some Lp) e = absurd cc
exact Mt (Some Mt) e = refl

pub itself : (kind : Kind) → is_kind kind (Some kind) ≡ true
itself Tr = refl
itself Tp = refl
itself Cr = refl
itself Lp = refl
itself Mt = refl
