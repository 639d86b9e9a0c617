-- The text of an object in which labels name again what is written already.
use Rattle.std.specs.Prelude.{ℕ, suc, Bool, true, false, ◌&&◌, leb, cond, List, [], ◌∷◌, ◌++◌, Option, Some, None}
use Rattle.mw_model.specs.Terms.Object.{Object, Natural, Symbol, Pair, same_object, same_name, nil_name}
use Rattle.mw_model.specs.Texts.Printing.{numeral, name_text, end_text}

-- the pairs that have labels, and the first number that no label has
pub record Labels : Type 0 where
  pub given : List (Object × ℕ)
  pub next : ℕ

abbrev pub number_among : Object → List (Object × ℕ) → Option ℕ
number_among x [] = None
number_among x (p ∷ ps) = cond (same_object p.0 x) (Some p.1) (number_among x ps)

abbrev pub number_of : Object → Labels → Option ℕ
number_of x l = number_among x l.given

-- a label has at most nine digits
abbrev pub most_label : ℕ
most_label = 999999999

abbrev pub one_more : Labels → Labels
one_more l = record { given = l.given; next = suc l.next }

abbrev pub give : Object → ℕ → Labels → Labels
give x n l = record { given = (x, n) ∷ l.given; next = l.next }

-- #n= and #n#
abbrev pub label_text : ℕ → List ℕ
label_text n = 35 ∷ (numeral n ++ 61 ∷ [])

abbrev pub again_text : ℕ → List ℕ
again_text n = 35 ∷ (numeral n ++ 35 ∷ [])

-- what is written, and the labels then
pub record Labelled : Type 0 where
  pub text : List ℕ
  pub after : Labels

abbrev pub written : List ℕ → Labels → Labelled
written t l = record { text = t; after = l }

-- a pair is written by its label, or with a new label, or with none
pub data Way : Type 0 where
  Again : ℕ → Way
  New : Way
  Plain : Way

abbrev pub new_if : Bool → Way
new_if true = New
new_if false = Plain

abbrev pub way_by : Option ℕ → Bool → Way
way_by (Some n) b = Again n
way_by None b = new_if b

abbrev pub and_then : Labelled → (Labels → Labelled) → Labelled
and_then w more = let u = more w.after in written (w.text ++ u.text) u.after

abbrev pub after_byte : ℕ → Labelled → Labelled
after_byte b w = written (b ∷ w.text) w.after

abbrev pub labelling : Object → ℕ → Labelled → Labelled
labelling x n w = written (label_text n ++ w.text) (give x n w.after)

abbrev pub by_way : Way → Object → Labels → (Labels → Labelled) → Labelled
by_way (Again n) x l body = written (again_text n) l
by_way New x l body = labelling x l.next (body (one_more l))
by_way Plain x l body = body l

-- the last part of a list, where it is no list without a label
abbrev pub dotted : Labelled → Labelled
dotted w = written (32 ∷ 46 ∷ 32 ∷ (w.text ++ 41 ∷ [])) w.after

abbrev pub tail_way : Way → Object → Labels → (ℕ → Labels → Labelled) → Labelled
tail_way (Again n) x l body = dotted (by_way (Again n) x l (body 40))
tail_way New x l body = dotted (by_way New x l (body 40))
tail_way Plain x l body = body 32 l

-- labels are given to those pairs alone for which the test s is true
module _ (s : Object → Bool) where
  abbrev pub way : Object → Labels → Way
  way x l = way_by (number_of x l) (s x && leb l.next most_label)

  abbrev mutual
    pub datum : Object → Labels → Labelled
    datum (Natural n) l = written (numeral n) l
    datum (Symbol y) l = written (name_text y) l
    datum (Pair a d) l = by_way (way (Pair a d) l) (Pair a d) l (λ m. after_byte 40 (and_then (datum a m) (tail d)))

    -- of a list what follows its first member
    pub tail : Object → Labels → Labelled
    tail (Natural n) l = written (end_text false (numeral n)) l
    tail (Symbol y) l = written (end_text (same_name y nil_name) (name_text y)) l
    tail (Pair a d) l = tail_way (way (Pair a d) l) (Pair a d) l (λ b m. after_byte b (and_then (datum a m) (tail d)))

-- the text of x, and the first number that no label has then
abbrev pub labelled_text : (Object → Bool) → Object → ℕ → List ℕ
labelled_text s x first = (datum s x (record { given = []; next = first })).text

abbrev pub labelled_next : (Object → Bool) → Object → ℕ → ℕ
labelled_next s x first = (datum s x (record { given = []; next = first })).after.next
