-- What a fact at Ok or at Err gives.
use Rattle.std.specs.Prelude.{Result, Ok, Err, OnErr, IfOk, OnOk}

pub on_err : {A E : Type 0} (r : Result A E) (P Q : Type 0) → (P → Q) → OnErr r P → OnErr r Q
on_err (Ok a) P Q f h = tt
on_err (Err e) P Q f h = f h

pub if_ok : {A E : Type 0} (r : Result A E) (P Q : A → Type 0) → ((a : A) → P a → Q a) → IfOk r P → IfOk r Q
if_ok (Ok a) P Q f h = f a h
if_ok (Err e) P Q f h = tt

-- either is known
pub on_either : {A E : Type 0} (r : Result A E) (P : A → Type 0) (Q R : Type 0) → IfOk r P → OnErr r Q → ((a : A) → P a → R) → (Q → R) → R
on_either (Ok a) P Q R p q f g = f a p
on_either (Err e) P Q R p q f g = g q

-- what is known of each value holds of all
pub on_ok : {A E : Type 0} (r : Result A E) (P : A → Type 0) (Q : Type 0) → ((a : A) → P a → Q) → IfOk r P → OnOk r Q
on_ok (Ok a) P Q f p = f a p
on_ok (Err e) P Q f p = tt
