-- Two pieces are fed, one after the other.
use Rattle.std.proofs.Common.{◌∷◌, [], ◌++◌, inl, sym, ap, ◌∙◌, subst}
use Rattle.mw_read.specs.Standing.{Stands, IsFree}
use Rattle.mw_request.proofs.theorem_name.reader_of.Goals as goal

pub returns-clause-unread : goal.returns-clause-unread
returns-clause-unread c =
    let goes = (c.new-reader.ensures.stands []).goes_on in
    let first = c.in_ok-feed.ensures.fed goes in
    let second = c.in_ok-feed-2.ensures.fed (ap (λ r. r.parser.ended) first ∙ goes) in
    ap (λ r. r.unread) c.finish.ensures.finished
    ∙ ap (λ r. r.unread) second
    ∙ ap (λ u. u ++ 10 ∷ []) (ap (λ r. r.unread) first ∙ ap (λ u. u ++ c.args.text.now) c.new-reader.ensures.awaits.0)

pub returns-clause-ready : goal.returns-clause-ready
returns-clause-ready c os = c.finish.ensures.ready os (c.feed-2.ensures.ready os (c.feed.ensures.ready os (c.new-reader.ensures.ready os)))

pub returns-clause-finished : goal.returns-clause-finished
returns-clause-finished c = ap (λ r. r.finished) c.finish.ensures.finished

pub returns-clause-stands : goal.returns-clause-stands
returns-clause-stands c os =
    let goes = (c.new-reader.ensures.stands []).goes_on in
    let first = ap (λ r. r.parser) (c.in_ok-feed.ensures.fed goes) in
    let second = ap (λ r. r.parser) (c.in_ok-feed-2.ensures.fed (ap (λ p. p.ended) first ∙ goes)) in
    subst (λ p. Stands os p [] []) (sym (ap (λ r. r.parser) c.finish.ensures.finished ∙ second ∙ first)) (c.new-reader.ensures.stands os)

pub feed-requires-clause-more : goal.feed-requires-clause-more
feed-requires-clause-more c = inl c.new-reader.ensures.awaits.1

pub feed-requires-clause-follows : goal.feed-requires-clause-follows
feed-requires-clause-follows c = inl (c.new-reader.ensures.free _)

pub feed-requires-2-clause-more : goal.feed-requires-2-clause-more
feed-requires-2-clause-more c = inl (ap (λ r. r.finished) (c.in_ok-feed.ensures.fed (c.new-reader.ensures.stands []).goes_on) ∙ c.new-reader.ensures.awaits.1)

pub feed-requires-2-clause-follows : goal.feed-requires-2-clause-follows
feed-requires-2-clause-follows c =
    inl (subst IsFree (sym (ap (λ r. r.parser) (c.in_ok-feed.ensures.fed (c.new-reader.ensures.stands []).goes_on))) c.new-reader.ensures.free _)
