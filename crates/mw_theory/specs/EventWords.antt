-- The words of events: which word an object names or begins with, and how many members follow it.
use Rattle.std.specs.Prelude.{Bool, false, Option, None}
use Rattle.mw_model.specs.Terms.Object.{Object, Natural, Symbol, Pair, has_members}
use Rattle.mw_model.specs.Events.Fate.{EventWord, event_words, event_word_among}
use Rattle.mw_heap.specs.declared.vocabulary.word.Word.{Word}
use Rattle.mw_heap.specs.declared.vocabulary.word.Word.TheVariants as word

-- the word that an object names
abbrev pub word_at : Object → Option EventWord
word_at (Natural n) = None
word_at (Symbol s) = event_word_among event_words s
word_at (Pair a b) = None

-- the word that an object begins with
abbrev pub word_begun : Object → Option EventWord
word_begun (Pair first rest) = word_at first
word_begun (Natural n) = None
word_begun (Symbol s) = None

-- the word is that of an event, and has these members
abbrev pub are_members_of : Word → Object → Bool
are_members_of word.Verify x = has_members 3 x
are_members_of word.Define x = has_members 5 x
are_members_of word.Skolem x = has_members 4 x
are_members_of word.Switch x = has_members 1 x
are_members_of word.Eval x = has_members 1 x
are_members_of word.Print x = has_members 1 x
are_members_of word.DefineAll x = has_members 2 x
are_members_of word.Profile x = has_members 1 x
are_members_of _ x = false
