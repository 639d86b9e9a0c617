-- Clauses on a success or on a failure, from others.
use Rattle.std.proofs.Common.{Result, OnOk, OnErr, IfErr, Ok, Err}

pub OnErr-always : {T E P : Type 0} (r : Result T E) → P → OnErr r P
OnErr-always (Ok x) p = tt
OnErr-always (Err e) p = p

-- three clauses on a success make a fourth
pub OnOk-three : {T E P Q R S : Type 0} (r : Result T E) → OnOk r P → OnOk r Q → OnOk r R → (P → Q → R → S) → OnOk r S
OnOk-three (Ok x) p q r f = f p q r
OnOk-three (Err e) p q r f = tt

-- a clause on a failure from another, and from two
pub IfErr-more : {T E : Type 0} {P Q : E → Type 0} (r : Result T E) → ((e : E) → P e → Q e) → IfErr r P → IfErr r Q
IfErr-more (Ok x) f p = tt
IfErr-more (Err e) f p = f e p

pub IfErr-two : {T E : Type 0} {P Q R : E → Type 0} (r : Result T E) → ((e : E) → P e → Q e → R e) → IfErr r P → IfErr r Q → IfErr r R
IfErr-two (Ok x) f p q = tt
IfErr-two (Err e) f p q = f e p q
