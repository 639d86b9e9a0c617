-- A term or a list of terms.
use Rattle.std.proofs.Common.{IfOk, sym, subst}
use Rattle.mw_term.specs.Parts.{names_at}
use Rattle.mw_define.specs.Mentioning.{IsLook, Splits}
use Rattle.mw_define.proofs.mention.look.Goals as goal

pub returns-in-Term : goal.returns-in-Term
returns-in-Term c = let os = c.args.heap.now.objects in subst (λ p. IfOk c.look_at_term.result (IsLook (names_at os c.args.names.now.keys) os p c.args.waiting.now.items c.look_at_term.new.waiting.items)) (sym c.in-Term.is) c.look_at_term.ensures

pub returns-in_ok-split_terms-in-Terms : goal.returns-in_ok-split_terms-in-Terms
returns-in_ok-split_terms-in-Terms c = let os = c.args.heap.now.objects in subst (λ p. Splits (names_at os c.args.names.now.keys) os p c.args.waiting.now.items c.split_terms.new.waiting.items) (sym c.in-Terms.is) (c.in_ok-split_terms-in-Terms.ensures (names_at os c.args.names.now.keys))
