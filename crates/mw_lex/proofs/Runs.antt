-- Runs of bytes of a kind.
use Rattle.std.proofs.Common.{◌≡◌, ℕ, zero, suc, ◌+◌, ◌<◌, Bool, true, false, List, [], ◌∷◌, ◌++◌, length, take, get_or, refl, sym, ap, ◌∙◌, arith, if◌then◌else◌, append_assoc, append-nil, add-one}
use Rattle.std.proofs.lemmas.Bool.{and_parts}
use Rattle.mw_model.specs.Texts.Lexemes.{run_of, after_run}
use Rattle.std.specs.List.{list_all}

pub take_more : (bytes : List ℕ) (i : ℕ) → i < length bytes → take (i + 1) bytes ≡ take i bytes ++ get_or bytes i 0 ∷ []
take_more [] i h = absurd (omega arith)
take_more (b ∷ bs) zero h = refl
take_more (b ∷ bs) (suc i) h = ap (λ n. take n (b ∷ bs)) (add-one (suc i)) ∙ ap (λ u. b ∷ u) (sym (ap (λ n. take n bs) (add-one i)) ∙ take_more bs i (omega arith))

pub length_more : (t : List ℕ) (b : ℕ) → length (t ++ b ∷ []) ≡ suc (length t)
length_more [] b = refl
length_more (c ∷ t) b = ap suc (length_more t b)

pub more_text : (t : List ℕ) (b : ℕ) (x : List ℕ) → (t ++ b ∷ []) ++ x ≡ t ++ b ∷ x
more_text t b x = append_assoc t (b ∷ []) x

-- a run, and a byte that is not of the kind
pub run_all : (p : ℕ → Bool) (t : List ℕ) (b : ℕ) (x : List ℕ) → list_all p t ≡ true → p b ≡ false → run_of p (t ++ b ∷ x) ≡ t
run_all p [] b x h f = ap (λ v. if v then b ∷ run_of p x else []) f
run_all p (c ∷ t) b x h f =
    let a = and_parts (p c) (list_all p t) h in
    ap (λ v. if v then c ∷ run_of p (t ++ b ∷ x) else []) a.0 ∙ ap (λ u. c ∷ u) (run_all p t b x a.1 f)

pub after_all : (p : ℕ → Bool) (t : List ℕ) (b : ℕ) (x : List ℕ) → list_all p t ≡ true → p b ≡ false → after_run p (t ++ b ∷ x) ≡ b ∷ x
after_all p [] b x h f = ap (λ v. if v then after_run p x else b ∷ x) f
after_all p (c ∷ t) b x h f =
    let a = and_parts (p c) (list_all p t) h in
    ap (λ v. if v then after_run p (t ++ b ∷ x) else c ∷ (t ++ b ∷ x)) a.0 ∙ after_all p t b x a.1 f

pub run_more : (p : ℕ → Bool) (t y : List ℕ) → list_all p t ≡ true → run_of p (t ++ y) ≡ t ++ run_of p y
run_more p [] y h = refl
run_more p (c ∷ t) y h =
    let a = and_parts (p c) (list_all p t) h in
    ap (λ v. if v then c ∷ run_of p (t ++ y) else []) a.0 ∙ ap (λ u. c ∷ u) (run_more p t y a.1)

-- a run up to the end
pub run_end : (p : ℕ → Bool) (t : List ℕ) → list_all p t ≡ true → run_of p t ≡ t
run_end p t h = ap (run_of p) (sym (append-nil t)) ∙ run_more p t [] h ∙ append-nil t

pub after_end : (p : ℕ → Bool) (t : List ℕ) → list_all p t ≡ true → after_run p t ≡ []
after_end p [] h = refl
after_end p (c ∷ t) h = let a = and_parts (p c) (list_all p t) h in ap (λ v. if v then after_run p t else c ∷ t) a.0 ∙ after_end p t a.1
