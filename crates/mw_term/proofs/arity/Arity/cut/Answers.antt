use Rattle.std.proofs.Common.{◌≡◌, [], length, drop, ◌-◌, sym, ap, ◌∙◌, subst, arith, ap₂}
use Rattle.mw_term.specs.Tables.{AreNamed, table_of}
use Rattle.mw_term.proofs.Entries.{named-take, entries_before-take, length-entries_before}
use Rattle.mw_term.proofs.arity.Arity.cut.Goals as goal

pub invariant_of-self : goal.invariant_of-self
invariant_of-self c = record {
  named = subst AreNamed (sym c.truncate.ensures.entries) (named-take c.self.inside.arities.entries c.args.count c.self.invariant.named);
  distinct = c.truncate.ensures.unique;
}

pub returns : goal.returns
returns c =
    let e = ap length c.self.view_is in
    let l = length-entries_before c.self.inside.arities.entries [] in
    let n : length c.self.inside.arities.entries - c.args.count ≡ length c.args.self.now - c.args.count = omega (arith, e, l) in
    ap table_of c.truncate.ensures.entries
    ∙ (entries_before-take c.self.inside.arities.entries c.args.count [] (omega (arith, e, l, c.requires))
    ∙ ap₂ drop n c.self.view_is)
