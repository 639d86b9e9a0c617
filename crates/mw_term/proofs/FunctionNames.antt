-- A symbol that is none of the words is the name of a function.
use Rattle.std.proofs.Common.{◌≡◌, Bool, true, false, ◌||◌, ◌&&◌, not, refl}
use Rattle.mw_model.specs.Terms.Object.{Name, Object, Natural, Symbol, Pair, same_object}
use Rattle.mw_model.specs.Terms.Term.{is_among, other_words, abbreviation_words, is_function_name}
use Rattle.mw_model.specs.Values.Primitive.{is_symbol, name_of}
use Rattle.mw_heap.specs.Words.{word_object}
use Rattle.mw_heap.specs.declared.vocabulary.word.Word.{Word}
use Rattle.mw_heap.specs.declared.vocabulary.word.Word.TheVariants as word

neither : (a b : Bool) → a ≡ false → b ≡ false → (a || b) ≡ false
neither a b p q = cc

both_no : (a b : Bool) → a ≡ false → b ≡ false → (not a && not b) ≡ true
both_no a b p q = cc

abbrev IsNoWord : Name → Type 0
IsNoWord f = (w : Word) → same_object (Symbol f) (word_object w) ≡ false

no_other : (f : Name) → IsNoWord f → is_among f other_words ≡ false
no_other f h =
    neither _ _ (h word.Nil) (neither _ _ (h word.T) (neither _ _ (h word.Quote) (neither _ _ (h word.Lambda) (neither _ _ (h word.Pequal) (neither _ _ (h word.Pnot) (neither _ _ (h word.Por) refl))))))

no_abbreviation : (f : Name) → IsNoWord f → is_among f abbreviation_words ≡ false
no_abbreviation f h =
    neither _ _ (h word.And) (neither _ _ (h word.Or) (neither _ _ (h word.Cond) (neither _ _ (h word.List) (neither _ _ (h word.Let) (neither _ _ (h word.LetStar) (neither _ _ (h word.First) (neither _ _ (h word.Second) (neither _ _ (h word.Third) (neither _ _ (h word.Fourth) (neither _ _ (h word.Fifth) refl))))))))))

pub no_word : (x : Object) → is_symbol x ≡ true → ((w : Word) → same_object x (word_object w) ≡ false) → is_function_name (name_of x) ≡ true
no_word (Symbol f) s h = both_no _ _ (no_other f h) (no_abbreviation f h)
no_word (Natural n) s h = cc
no_word (Pair a b) s h = cc
