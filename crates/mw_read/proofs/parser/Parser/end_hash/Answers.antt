use Rattle.std.proofs.Common.{◌≡◌, ◌∙◌, ◌≤◌, ◌++◌, length, sym, ap, subst, refl, true}
use Rattle.mw_model.specs.Texts.Lexemes.{Mark, Ref, is_digit, is_white}
use Rattle.std.specs.List.{list_all}
use Rattle.mw_read.proofs.Bare.{kept_is, not_empty, empty_is}
use Rattle.mw_read.proofs.Hashes.{label_mark, label_ref, label_none, label_breaks, label_took, label_ends}
use Rattle.mw_read.proofs.Moving.{hash_ended, hash_length}
use Rattle.mw_read.proofs.parser.Parser.end_hash.Goals as goal
use Rattle.mw_read.proofs.parser.Parser.end_hash.Goals.{After-whole_text-text}

-- the text is what was kept and these bytes
whole : (c : goal.After-whole_text-text) → c.whole_text-text.result.now ≡ c.args.self.now.token.items ++ c.args.bytes.now
whole c =
    kept_is c.args.self.now.token.items c.keep_after.new.kept.items c.deref.result.now c.args.bytes.now c.whole_text-text.result.now
    c.in_ok-keep_after.ensures.some c.in_ok-keep_after.ensures.none c.deref.ensures.value c.whole_text-text.ensures.kept c.whole_text-text.ensures.none

pub few_digits-n-requires-clause-digits : goal.few_digits-n-requires-clause-digits
few_digits-n-requires-clause-digits c = subst (λ u. list_all is_digit u ≡ true) (sym (whole (goal.at.few_digits-n-requires-clause-digits c).After-whole_text-text)) c.requires.digits

pub few_digits-n-requires-clause-few : goal.few_digits-n-requires-clause-few
few_digits-n-requires-clause-few c = subst (λ u. length u ≤ 9) (sym (whole (goal.at.few_digits-n-requires-clause-few c).After-whole_text-text)) c.requires.few

pub take-requires-clause-comes : goal.take-requires-clause-comes
take-requires-clause-comes c = c.requires.parser.ready c.requires.inside

pub take-requires-in-35-clause-comes : goal.take-requires-in-35-clause-comes
take-requires-in-35-clause-comes c = c.requires.parser.ready c.requires.inside

pub returns-in-61-clause-took : goal.returns-in-61-clause-took
returns-in-61-clause-took c =
    let w = whole (goal.at.returns-in-61-clause-took c).After-whole_text-text in
    label_took c.args.heap.now.objects c.take.new.heap.objects c.args.self.now.stack c.take.new.self.stack _ _ c.take.result
    (label_ends c.args.self.now.start c.whole_text-text.result.now (c.args.self.now.token.items ++ c.args.bytes.now) c.args.b c.few_digits-n.result Mark w c.few_digits-n.ensures (not_empty c.whole_text-text.result.now _ refl c.if-is_empty.ensures) (λ some. label_mark _ _ _ some c.in-61.is))
    c.take.ensures.took

pub returns-in-35-clause-took : goal.returns-in-35-clause-took
returns-in-35-clause-took c =
    let w = whole (goal.at.returns-in-35-clause-took c).After-whole_text-text in
    label_took c.args.heap.now.objects c.take-in-35.new.heap.objects c.args.self.now.stack c.take-in-35.new.self.stack _ _ c.take-in-35.result
    (label_ends c.args.self.now.start c.whole_text-text.result.now (c.args.self.now.token.items ++ c.args.bytes.now) c.args.b c.few_digits-n.result Ref w c.few_digits-n.ensures (not_empty c.whole_text-text.result.now _ refl c.if-is_empty.ensures) (λ some. label_ref _ _ _ some c.in-35.is))
    c.take-in-35.ensures.took

pub returns-in-61-clause-ended : goal.returns-in-61-clause-ended
returns-in-61-clause-ended c = hash_ended c.take.result _ c.args.b c.args.self.now c.take.new.self c.take.ensures.begun (c.take.ensures.start ∙ hash_length _ (whole (goal.at.returns-in-61-clause-ended c).After-whole_text-text)) (ap is_white c.in-61.is)

pub returns-in-35-clause-ended : goal.returns-in-35-clause-ended
returns-in-35-clause-ended c = hash_ended c.take-in-35.result _ c.args.b c.args.self.now c.take-in-35.new.self c.take-in-35.ensures.begun (c.take-in-35.ensures.start ∙ hash_length _ (whole (goal.at.returns-in-35-clause-ended c).After-whole_text-text)) (ap is_white c.in-35.is)

pub returns-then-is_empty-clause-took : goal.returns-then-is_empty-clause-took
returns-then-is_empty-clause-took c t h full =
    let a = c.args.self.now in
    let d = a.token.items ++ c.args.bytes.now in
    let none = sym (whole (goal.at.returns-then-is_empty-clause-took c).After-whole_text-text) ∙ empty_is c.whole_text-text.result.now _ refl c.if-is_empty.ensures in
    label_breaks c.args.heap.now.objects a.stack t a.start d c.args.b c.fault.result (label_none a.start d c.args.b none) c.fault.ensures h full
