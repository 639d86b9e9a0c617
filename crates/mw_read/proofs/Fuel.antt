-- The bound on the recursion of read makes no difference once it is enough.
use Rattle.std.proofs.Common.{◌≡◌, ℕ, zero, suc, ◌+◌, ◌-◌, ◌≤◌, Bool, true, false, List, [], ◌∷◌, Option, Some, None, refl, sym, ap, ◌∙◌, subst, arith, le_trans, le_refl, zero-le, if◌then◌else◌}
use Rattle.mw_model.specs.Terms.Object.{Object}
use Rattle.mw_model.specs.Texts.Lexemes.{Lexeme, Atom, Open, Close, Dot, Quote, Mark, Ref, Wrong, Stray, End, LABEL}
use Rattle.mw_read.specs.Resume.{reads, rest}
use Rattle.mw_model.specs.Texts.Grammar.{Labels, Label, Read, Got, Stop, and_then, quoting, pairing, and_tail, halt, closing, labelling, reference, Part, Datum, First, Tail, Last, read, labelled, is_begun, enough, Book, and_events, and_data, data_of, Unused}

abbrev pub room : Part → List Lexeme → ℕ
room Datum [] = 0
room Datum (l ∷ r) = suc (enough r)
room First r = enough r
room Tail r = enough r
room Last r = enough r

room_le : (p : Part) (r : List Lexeme) (k : ℕ) → enough r ≤ k → room p r ≤ k
room_le Datum [] k h = zero-le
room_le Datum (l ∷ r) k h = omega arith
room_le First r k h = h
room_le Tail r k h = h
room_le Last r k h = h

-- what is left is shorter, by a lexeme at least
abbrev pub Shrinks : Read → ℕ → Type 0
Shrinks (Got x ls r) n = suc (suc (enough r)) ≤ n
Shrinks (Stop s) n = Unit {0}

shrink_then : (n : ℕ) (m : Read) (f : Object → Labels → List Lexeme → Read) → Shrinks m n →
    ((x : Object) (ls : Labels) (r : List Lexeme) → suc (suc (enough r)) ≤ n → Shrinks (f x ls r) n) → Shrinks (and_then m f) n
shrink_then n (Got x ls r) f h g = g x ls r h
shrink_then n (Stop s) f h g = tt

Shrinks_le : (m : Read) (a b : ℕ) → a ≤ b → Shrinks m a → Shrinks m b
Shrinks_le (Got x ls r) a b h s = le_trans s h
Shrinks_le (Stop s) a b h t = tt

shrink_closing : (x : Object) (ls : Labels) (r : List Lexeme) (n : ℕ) → enough r ≤ n → Shrinks (closing x ls r) n
shrink_closing x ls [] n h = tt
shrink_closing x ls (Close o ∷ r) n h = h
shrink_closing x ls (Stray f ∷ r) n h = tt
shrink_closing x ls (End s ∷ r) n h = tt
shrink_closing x ls (Atom o y ∷ r) n h = tt
shrink_closing x ls (Open o ∷ r) n h = tt
shrink_closing x ls (Dot o ∷ r) n h = tt
shrink_closing x ls (Quote o ∷ r) n h = tt
shrink_closing x ls (Mark o m ∷ r) n h = tt
shrink_closing x ls (Ref o m ∷ r) n h = tt
shrink_closing x ls (Wrong o s ∷ r) n h = tt

shrink_reference : (o : ℕ) (y : Option Object) (ls : Labels) (r : List Lexeme) → Shrinks (reference o y ls r) (suc (suc (enough r)))
shrink_reference o (Some x) ls r = le_refl _
shrink_reference o None ls r = tt

shrink_if : (b : Bool) (m m' : Read) (n : ℕ) → Shrinks m n → Shrinks m' n → Shrinks (if b then m else m') n
shrink_if true m m' n h h' = h
shrink_if false m m' n h h' = h'

shrink_pair : (n : ℕ) (m : Read) (tail : Labels → List Lexeme → Read) → Shrinks m n →
    ((ls : Labels) (r : List Lexeme) → Shrinks (tail ls r) (enough r)) → Shrinks (and_then m (and_tail tail)) n
shrink_pair n m tail h t =
    shrink_then n m (and_tail tail) h (λ x ls r a. shrink_then n (tail ls r) (pairing x) (Shrinks_le (tail ls r) (enough r) n (omega arith) (t ls r)) (λ y ls r b. b))

pub shrink : (k : ℕ) (p : Part) (ls : Labels) (r : List Lexeme) → Shrinks (read k p ls r) (enough r)
shrink zero p ls r = tt
shrink (suc k) Datum ls [] = tt
shrink (suc k) First ls [] = tt
shrink (suc k) Tail ls [] = tt
shrink (suc k) Last ls [] = tt
shrink (suc k) Datum ls (Atom o x ∷ r) = le_refl _
shrink (suc k) Datum ls (Open o ∷ r) = Shrinks_le (read k First ls r) (enough r) (suc (suc (enough r))) (omega arith) (shrink k First ls r)
shrink (suc k) Datum ls (Quote o ∷ r) =
    shrink_then (suc (suc (enough r))) (read k Datum ls r) _ (Shrinks_le (read k Datum ls r) (enough r) (suc (suc (enough r))) (omega arith) (shrink k Datum ls r)) (λ x ls r h. h)
shrink (suc k) Datum ls (Mark o n ∷ r) =
    shrink_if (is_begun n ls) (halt LABEL o) _ (suc (suc (enough r))) tt
    (shrink_then (suc (suc (enough r))) (read k Datum (Label n None ls) r) (labelling n)
    (Shrinks_le (read k Datum (Label n None ls) r) (enough r) (suc (suc (enough r))) (omega arith) (shrink k Datum (Label n None ls) r)) (λ x ls r h. h))
shrink (suc k) Datum ls (Ref o n ∷ r) = shrink_reference o (labelled n ls) ls r
shrink (suc k) Datum ls (Close o ∷ r) = tt
shrink (suc k) Datum ls (Dot o ∷ r) = tt
shrink (suc k) Datum ls (Wrong o s ∷ r) = tt
shrink (suc k) Datum ls (Stray f ∷ r) = tt
shrink (suc k) Datum ls (End s ∷ r) = tt
shrink (suc k) First ls (Close o ∷ r) = le_refl _
shrink (suc k) First ls (l ∷ r) = shrink_pair (enough (l ∷ r)) (read k Datum ls (l ∷ r)) (read k Tail) (shrink k Datum ls (l ∷ r)) (λ ls r. shrink k Tail ls r)
shrink (suc k) Tail ls (Close o ∷ r) = le_refl _
shrink (suc k) Tail ls (Dot o ∷ r) = Shrinks_le (read k Last ls r) (enough r) (suc (suc (enough r))) (omega arith) (shrink k Last ls r)
shrink (suc k) Tail ls (l ∷ r) = shrink_pair (enough (l ∷ r)) (read k Datum ls (l ∷ r)) (read k Tail) (shrink k Datum ls (l ∷ r)) (λ ls r. shrink k Tail ls r)
shrink (suc k) Last ls (Close o ∷ r) = tt
shrink (suc k) Last ls (l ∷ r) =
    shrink_then (enough (l ∷ r)) (read k Datum ls (l ∷ r)) closing (shrink k Datum ls (l ∷ r)) (λ x ls more h. shrink_closing x ls more (enough (l ∷ r)) (omega arith))

-- equal parts in sequence are equal
same_then : (n : ℕ) (m m' : Read) (f g : Object → Labels → List Lexeme → Read) → m ≡ m' → Shrinks m n →
    ((x : Object) (ls : Labels) (r : List Lexeme) → suc (suc (enough r)) ≤ n → f x ls r ≡ g x ls r) → and_then m f ≡ and_then m' g
same_then n (Got x ls r) m' f g e h k = subst (λ v. f x ls r ≡ and_then v g) e (k x ls r h)
same_then n (Stop s) m' f g e h k = subst (λ v. Stop s ≡ and_then v g) e refl

same_pair : (n : ℕ) (m m' : Read) (t t' : Labels → List Lexeme → Read) → m ≡ m' → Shrinks m n →
    ((ls : Labels) (r : List Lexeme) → suc (suc (enough r)) ≤ n → t ls r ≡ t' ls r) → and_then m (and_tail t) ≡ and_then m' (and_tail t')
same_pair n m m' t t' e h k = same_then n m m' (and_tail t) (and_tail t') e h (λ x ls r a. ap (λ v. and_then v (pairing x)) (k ls r a))

pub fuel : (k : ℕ) (p : Part) (ls : Labels) (r : List Lexeme) → room p r ≤ k → read k p ls r ≡ read (suc k) p ls r
fuel zero Datum ls [] h = refl
fuel zero First ls [] h = refl
fuel zero Tail ls [] h = refl
fuel zero Last ls [] h = refl
fuel zero Datum ls (l ∷ r) h = absurd (omega arith)
fuel zero First ls (l ∷ r) h = absurd (omega arith)
fuel zero Tail ls (l ∷ r) h = absurd (omega arith)
fuel zero Last ls (l ∷ r) h = absurd (omega arith)
fuel (suc k) Datum ls [] h = refl
fuel (suc k) First ls [] h = refl
fuel (suc k) Tail ls [] h = refl
fuel (suc k) Last ls [] h = refl
fuel (suc k) Datum ls (Atom o x ∷ r) h = refl
fuel (suc k) Datum ls (Open o ∷ r) h = fuel k First ls r (omega arith)
fuel (suc k) Datum ls (Quote o ∷ r) h = ap (λ v. and_then v quoting) (fuel k Datum ls r (room_le Datum r k (omega arith)))
fuel (suc k) Datum ls (Mark o n ∷ r) h =
    ap (λ v. if is_begun n ls then halt LABEL o else and_then v (labelling n)) (fuel k Datum (Label n None ls) r (room_le Datum r k (omega arith)))
fuel (suc k) Datum ls (Ref o n ∷ r) h = refl
fuel (suc k) Datum ls (Close o ∷ r) h = refl
fuel (suc k) Datum ls (Dot o ∷ r) h = refl
fuel (suc k) Datum ls (Wrong o s ∷ r) h = refl
fuel (suc k) Datum ls (Stray f ∷ r) h = refl
fuel (suc k) Datum ls (End s ∷ r) h = refl
fuel (suc k) First ls (Close o ∷ r) h = refl
fuel (suc k) First ls (l ∷ r) h =
    same_pair (enough (l ∷ r)) (read k Datum ls (l ∷ r)) (read (suc k) Datum ls (l ∷ r)) (read k Tail) (read (suc k) Tail)
    (fuel k Datum ls (l ∷ r) (omega arith)) (shrink k Datum ls (l ∷ r)) (λ ls more a. fuel k Tail ls more (omega arith))
fuel (suc k) Tail ls (Close o ∷ r) h = refl
fuel (suc k) Tail ls (Dot o ∷ r) h = fuel k Last ls r (omega arith)
fuel (suc k) Tail ls (l ∷ r) h =
    same_pair (enough (l ∷ r)) (read k Datum ls (l ∷ r)) (read (suc k) Datum ls (l ∷ r)) (read k Tail) (read (suc k) Tail)
    (fuel k Datum ls (l ∷ r) (omega arith)) (shrink k Datum ls (l ∷ r)) (λ ls more a. fuel k Tail ls more (omega arith))
fuel (suc k) Last ls (Close o ∷ r) h = refl
fuel (suc k) Last ls (l ∷ r) h = ap (λ v. and_then v closing) (fuel k Datum ls (l ∷ r) (omega arith))

up : ℕ → ℕ → ℕ
up zero n = n
up (suc d) n = suc (up d n)

up_is : (d n : ℕ) → up d n ≡ d + n
unfolding up
up_is zero n = omega arith
up_is (suc d) n = omega (arith, up_is d n)

room_enough : (p : Part) (r : List Lexeme) → room p r ≤ enough r
room_enough p r = room_le p r (enough r) (le_refl _)

fuel_up : (d k : ℕ) (p : Part) (ls : Labels) (r : List Lexeme) → room p r ≤ k → read k p ls r ≡ read (up d k) p ls r
unfolding up
fuel_up zero k p ls r h = refl
fuel_up (suc d) k p ls r h = fuel_up d k p ls r h ∙ fuel (up d k) p ls r (omega (arith, up_is d k))

-- any bound from enough on gives the same
pub any_fuel : (k : ℕ) (p : Part) (ls : Labels) (r : List Lexeme) → enough r ≤ k → read k p ls r ≡ reads p ls r
any_fuel k p ls r h =
    let e : up (k - enough r) (enough r) ≡ k = omega (arith, up_is (k - enough r) (enough r)) in
    subst (λ j. read j p ls r ≡ reads p ls r) e (sym (fuel_up (k - enough r) (enough r) p ls r (room_enough p r)))

-- the grammar without bounds
pub reads_quote : (o : ℕ) (ls : Labels) (r : List Lexeme) → reads Datum ls (Quote o ∷ r) ≡ and_then (reads Datum ls r) quoting
reads_quote o ls r = ap (λ v. and_then v quoting) (any_fuel (suc (enough r)) Datum ls r (omega arith))

pub reads_open : (o : ℕ) (ls : Labels) (r : List Lexeme) → reads Datum ls (Open o ∷ r) ≡ reads First ls r
reads_open o ls r = any_fuel (suc (enough r)) First ls r (omega arith)

pub reads_mark : (o n : ℕ) (ls : Labels) (r : List Lexeme) →
    reads Datum ls (Mark o n ∷ r) ≡ (if is_begun n ls then halt LABEL o else and_then (reads Datum (Label n None ls) r) (labelling n))
reads_mark o n ls r =
    ap (λ v. if is_begun n ls then halt LABEL o else and_then v (labelling n)) (any_fuel (suc (enough r)) Datum (Label n None ls) r (omega arith))

pub reads_dot : (o : ℕ) (ls : Labels) (r : List Lexeme) → reads Tail ls (Dot o ∷ r) ≡ reads Last ls r
reads_dot o ls r = any_fuel (suc (enough r)) Last ls r (omega arith)

-- a member and the tail after it
pub reads_pair : (l : Lexeme) (ls : Labels) (r : List Lexeme) →
    and_then (read (suc (enough r)) Datum ls (l ∷ r)) (and_tail (read (suc (enough r)) Tail)) ≡ and_then (reads Datum ls (l ∷ r)) (and_tail (reads Tail))
reads_pair l ls r =
    same_pair (enough (l ∷ r)) (read (suc (enough r)) Datum ls (l ∷ r)) (reads Datum ls (l ∷ r)) (read (suc (enough r)) Tail) (reads Tail)
    (fuel (suc (enough r)) Datum ls (l ∷ r) (le_refl _)) (shrink (suc (enough r)) Datum ls (l ∷ r)) (λ ls more a. any_fuel (suc (enough r)) Tail ls more (omega arith))

pub reads_last : (l : Lexeme) (ls : Labels) (r : List Lexeme) →
    and_then (read (suc (enough r)) Datum ls (l ∷ r)) closing ≡ and_then (reads Datum ls (l ∷ r)) closing
reads_last l ls r = ap (λ v. and_then v closing) (fuel (suc (enough r)) Datum ls (l ∷ r) (le_refl _))

same_data : (n : ℕ) (f g : List Lexeme → Book) (m : Read) → Shrinks m n →
    ((r : List Lexeme) → suc (suc (enough r)) ≤ n → f r ≡ g r) → and_data f m ≡ and_data g m
same_data n f g (Got x ls r) s h = ap (and_events x) (h r s)
same_data n f g (Stop s) t h = refl

pub data_fuel : (j k : ℕ) (r : List Lexeme) → enough r ≤ j → enough r ≤ k → data_of j r ≡ data_of k r
data_fuel zero zero r h h' = refl
data_fuel zero (suc k) [] h h' = absurd (omega arith)
data_fuel zero (suc k) (l ∷ r) h h' = absurd (omega arith)
data_fuel (suc j) zero [] h h' = absurd (omega arith)
data_fuel (suc j) zero (l ∷ r) h h' = absurd (omega arith)
data_fuel (suc j) (suc k) [] h h' = refl
data_fuel (suc j) (suc k) (End s ∷ r) h h' = refl
data_fuel (suc j) (suc k) (l ∷ r) h h' =
    same_data (enough (l ∷ r)) (data_of j) (data_of k) (reads Datum Unused (l ∷ r)) (shrink (enough (l ∷ r)) Datum Unused (l ∷ r))
    (λ more a. data_fuel j k more (omega arith) (omega arith))

-- a datum and the data after it
pub rest_step : (l : Lexeme) (r : List Lexeme) → and_data (data_of (suc (enough r))) (reads Datum Unused (l ∷ r)) ≡ and_data rest (reads Datum Unused (l ∷ r))
rest_step l r =
    same_data (enough (l ∷ r)) (data_of (suc (enough r))) rest (reads Datum Unused (l ∷ r)) (shrink (enough (l ∷ r)) Datum Unused (l ∷ r))
    (λ more a. data_fuel (suc (enough r)) (enough more) more (omega arith) (le_refl _))
