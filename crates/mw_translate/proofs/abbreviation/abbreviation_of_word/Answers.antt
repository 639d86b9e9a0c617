-- Each word begins its abbreviation, and another word none.
use Rattle.std.proofs.Common.{sym, ap}
use Rattle.mw_model.specs.Terms.Object.{name_of_bytes}
use Rattle.mw_model.specs.Events.Expansion.{abbreviation_of}
use Rattle.mw_heap.specs.Words.{word_bytes}
use Rattle.mw_translate.proofs.AbbreviationWords.{other_word}
use Rattle.mw_translate.proofs.abbreviation.abbreviation_of_word.Goals as goal

pub returns-in-And : goal.returns-in-And
returns-in-And c = ap (λ w. abbreviation_of (name_of_bytes (word_bytes w))) (sym c.in-And.is)

pub returns-in-Or : goal.returns-in-Or
returns-in-Or c = ap (λ w. abbreviation_of (name_of_bytes (word_bytes w))) (sym c.in-Or.is)

pub returns-in-Cond : goal.returns-in-Cond
returns-in-Cond c = ap (λ w. abbreviation_of (name_of_bytes (word_bytes w))) (sym c.in-Cond.is)

pub returns-in-List : goal.returns-in-List
returns-in-List c = ap (λ w. abbreviation_of (name_of_bytes (word_bytes w))) (sym c.in-List.is)

pub returns-in-Let : goal.returns-in-Let
returns-in-Let c = ap (λ w. abbreviation_of (name_of_bytes (word_bytes w))) (sym c.in-Let.is)

pub returns-in-LetStar : goal.returns-in-LetStar
returns-in-LetStar c = ap (λ w. abbreviation_of (name_of_bytes (word_bytes w))) (sym c.in-LetStar.is)

pub returns-in-First : goal.returns-in-First
returns-in-First c = ap (λ w. abbreviation_of (name_of_bytes (word_bytes w))) (sym c.in-First.is)

pub returns-in-Second : goal.returns-in-Second
returns-in-Second c = ap (λ w. abbreviation_of (name_of_bytes (word_bytes w))) (sym c.in-Second.is)

pub returns-in-Third : goal.returns-in-Third
returns-in-Third c = ap (λ w. abbreviation_of (name_of_bytes (word_bytes w))) (sym c.in-Third.is)

pub returns-in-Fourth : goal.returns-in-Fourth
returns-in-Fourth c = ap (λ w. abbreviation_of (name_of_bytes (word_bytes w))) (sym c.in-Fourth.is)

pub returns-in-Fifth : goal.returns-in-Fifth
returns-in-Fifth c = ap (λ w. abbreviation_of (name_of_bytes (word_bytes w))) (sym c.in-Fifth.is)

pub returns-in-Quote : goal.returns-in-Quote
returns-in-Quote c = ap (λ w. abbreviation_of (name_of_bytes (word_bytes w))) (sym c.in-Quote.is)

pub returns-in_default : goal.returns-in_default
returns-in_default c =
    let d = c.in_default in
    other_word c.args.word d.not-And d.not-Or d.not-Cond d.not-List d.not-Let d.not-LetStar d.not-First d.not-Second d.not-Third d.not-Fourth d.not-Fifth d.not-Quote
