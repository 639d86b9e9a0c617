-- Each word's place is its index.
use Rattle.std.proofs.Common.{◌≡◌, ◌<◌, ◌∙◌, arith}
use Rattle.mw_heap.specs.Words.{word_count}
use Rattle.mw_heap.proofs.Words.{place_in_list}
use Rattle.mw_heap.proofs.vocabulary.word.word_in.Goals as goal

pub returns-then-index-lt50 : goal.returns-then-index-lt50
returns-then-index-lt50 c =
    let at : c.index-then-index-lt50.result ≡ c.args.place = c.index-then-index-lt50.ensures in
    let within : c.index-then-index-lt50.result < word_count = omega (arith, at, c.index.ensures, c.if-index-lt50.true) in
    place_in_list c.index-then-index-lt50.result _ within ∙ at
