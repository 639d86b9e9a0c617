-- What is said of the value of a result, or of its error.
use Rattle.std.proofs.Common.{Result, Ok, Err, IfOk, OnOk, OnErr}

pub IfOk-map : {X : Type 0} {E : Type 0} (r : Result X E) (P Q : X → Type 0) → ((x : X) → P x → Q x) → IfOk r P → IfOk r Q
IfOk-map (Ok x) P Q f h = f x h
IfOk-map (Err e) P Q f h = h

pub OnOk-map : {X : Type 0} {E : Type 0} (r : Result X E) (P Q : Type 0) → (P → Q) → OnOk r P → OnOk r Q
OnOk-map (Ok x) P Q f h = f h
OnOk-map (Err e) P Q f h = h

pub OnOk-from : {X : Type 0} {E : Type 0} (r : Result X E) (P : Type 0) → P → OnOk r P
OnOk-from (Ok x) P p = p
OnOk-from (Err e) P p = tt

pub OnErr-from : {X : Type 0} {E : Type 0} (r : Result X E) (P : Type 0) → P → OnErr r P
OnErr-from (Ok x) P p = tt
OnErr-from (Err e) P p = p

pub OnErr-map : {X : Type 0} {E : Type 0} (r : Result X E) (P Q : Type 0) → (P → Q) → OnErr r P → OnErr r Q
OnErr-map (Ok x) P Q f h = h
OnErr-map (Err e) P Q f h = f h
