use Rattle.std.proofs.Common.{subst, refl}
use Rattle.mw_read.specs.Parsing.{IsAfter}
use Rattle.mw_read.specs.declared.parser.Begun.TheVariants.{Nothing}
use Rattle.mw_read.specs.declared.parser.Parser.{Parser}
use Rattle.mw_read.specs.declared.step.SyntaxKind.TheVariants as kinds
use Rattle.std.proofs.Common.{get_or}
use Rattle.mw_read.proofs.Holding.{sound_clamp}
use Rattle.mw_read.proofs.Advancing.{fault_advances}
use Rattle.mw_read.proofs.Beginning.{glued_faults, after_advances, if_ok_both}
use Rattle.mw_read.proofs.parser.Parser.after.Goals as goal

pub returns-then-glued-clause-advances : goal.returns-then-glued-clause-advances
returns-then-glued-clause-advances c t h =
    let a = c.args.self.now in
    let rest = c.args.rest.now in
    fault_advances c.args.heap.now.objects t a a rest c.fault.result 0 (record { kind = kinds.Token; offset = a.start }) c.fault.ensures
    (λ e z. glued_faults e t a rest z c.requires.some (subst (λ g. IsAfter a.begun g (get_or rest 0 0)) c.if-glued.true c.requires.after) (sound_clamp c.args.heap.now.objects a.stack t h.means))

pub returns-clause-advances : goal.returns-clause-advances
returns-clause-advances c =
    let a = c.args.self.now in
    let rest = c.args.rest.now in
    let mid : Parser = record a { begun = Nothing } in
    let g = subst (λ g. IsAfter a.begun g (get_or rest 0 0)) c.if-glued.false c.requires.after in
    if_ok_both _ _ _ c.fresh.result (λ r m f t h. after_advances c.fresh.new.heap.objects t a mid c.fresh.new.self refl refl rest r.0 r.1 c.requires.some g m (f t h)) c.fresh.ensures.moves c.fresh.ensures.advances
