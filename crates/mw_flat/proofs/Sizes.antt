-- What is left of an item weighs less than the item.
use Rattle.std.proofs.Common.{◌≡◌, ℕ, zero, suc, ◌+◌, ◌<◌, ◌≤◌, List, [], ◌∷◌, ◌++◌, Option, Some, None, IfSome, inl, inr, append-nil, sym, ap, ◌∙◌, arith}
use Rattle.std.proofs.lemmas.Bool.{cases_lt}
use Rattle.mw_model.specs.Terms.Object.{Object}
use Rattle.mw_flat.specs.declared.item.Item.{Item}
use Rattle.mw_flat.specs.declared.item.Item.TheVariants.{Proof, Proofs, Complete, AllComplete}
use Rattle.mw_flat.specs.Walk.{subproofs_met, MeetsProof, MeetsProofs, Advances}

-- more than twice that of any smaller reference
abbrev size : ℕ → ℕ
size zero = 2
size (suc n) = 2 + (size n + size n)

size-mono : (m n : ℕ) → m ≤ n → size m ≤ size n
size-mono m zero h = let e : m ≡ zero = omega arith in omega (arith, ap size e)
size-mono m (suc n) h = go (size-mono m n)
  where
    go : (m ≤ n → size m ≤ size n) → size m ≤ size (suc n)
    go rest = elim (cases_lt n m) [ inl l ↦ let e : m ≡ suc n = omega arith in omega (arith, ap size e) | inr l ↦ omega (arith, rest l) ]

size-some : (x : ℕ) → 2 ≤ size x
size-some x = omega (arith, size-mono 0 x (omega arith))

size_both : (a d x : ℕ) → a < x → d < x → 2 + (size a + size d) ≤ size x
size_both a d zero h k = absurd (omega arith)
size_both a d (suc n) h k = omega (arith, size-mono a n (omega arith), size-mono d n (omega arith))

abbrev item_size : Item → ℕ
item_size (Proof x) = size x
item_size (Proofs x) = size x
item_size (Complete x) = 1
item_size (AllComplete x) = 1

abbrev pub items_size : List Item → ℕ
items_size [] = 0
items_size (i ∷ is) = items_size is + item_size i

items_size-append : (is js : List Item) → items_size (is ++ js) ≡ items_size is + items_size js
items_size-append [] js = omega arith
items_size-append (i ∷ is) js = omega (arith, items_size-append is js)

falls_by : (i : Item) (rest more waiting : List Item) → waiting ≡ rest ++ more → items_size more < item_size i → (all : List Item) → all ≡ rest ++ i ∷ [] → items_size waiting < items_size all
falls_by i rest more waiting e l all f = omega (arith, ap items_size e, items_size-append rest more, ap items_size f, items_size-append rest (i ∷ []), l)

met_size : (x : ℕ) (list : Option ℕ) → IfSome list (λ r. r < x) → items_size (Complete x ∷ subproofs_met list) < size x
met_size x None h = omega (arith, size-some x)
met_size x (Some r) h = omega (arith, size_both r r x h h)

proof_falls : (os : List Object) (x : ℕ) (complete : List ℕ) (rest waiting : List Item) → MeetsProof os x complete rest waiting → (all : List Item) → all ≡ rest ++ Proof x ∷ [] → items_size waiting < items_size all
proof_falls os x complete rest waiting (inl n) = falls_by (Proof x) rest [] waiting (n.1 ∙ sym (append-nil rest)) (omega (arith, size-some x))
proof_falls os x complete rest waiting (inr n) = falls_by (Proof x) rest (Complete x ∷ subproofs_met n.1) waiting n.5 (met_size x n.1 n.4)

list_falls : (os : List Object) (x : ℕ) (lists : List ℕ) (rest waiting : List Item) → MeetsProofs os x lists rest waiting → (all : List Item) → all ≡ rest ++ Proofs x ∷ [] → items_size waiting < items_size all
list_falls os x lists rest waiting (inl n) = falls_by (Proofs x) rest [] waiting (n.1 ∙ sym (append-nil rest)) (omega (arith, size-some x))
list_falls os x lists rest waiting (inr (inl n)) = falls_by (Proofs x) rest [] waiting (n.1 ∙ sym (append-nil rest)) (omega (arith, size-some x))
list_falls os x lists rest waiting (inr (inr n)) = falls_by (Proofs x) rest (AllComplete x ∷ Proofs n.2 ∷ Proof n.1 ∷ []) waiting n.8 (omega (arith, size_both n.1 n.2 x n.5 n.6))

pub items_fall : (os : List Object) (i : Item) (complete new_complete lists new_lists : List ℕ) (rest waiting : List Item) → Advances os i complete new_complete lists new_lists rest waiting → (all : List Item) → all ≡ rest ++ i ∷ [] → items_size waiting < items_size all
items_fall os (Proof x) complete new_complete lists new_lists rest waiting a = proof_falls os x complete rest waiting a.0
items_fall os (Proofs x) complete new_complete lists new_lists rest waiting a = list_falls os x lists rest waiting a.0
items_fall os (Complete x) complete new_complete lists new_lists rest waiting a = falls_by (Complete x) rest [] waiting (a.0 ∙ sym (append-nil rest)) (omega arith)
items_fall os (AllComplete x) complete new_complete lists new_lists rest waiting a = falls_by (AllComplete x) rest [] waiting (a.0 ∙ sym (append-nil rest)) (omega arith)
