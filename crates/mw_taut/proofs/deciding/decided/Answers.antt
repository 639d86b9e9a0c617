-- What comes of the proof by cases, in which at first nothing is chosen and nothing is proved, is the expected decision.
use Rattle.std.proofs.Common.{◌≤◌, [], length, sym, ap, ◌∙◌, subst, arith}
use Rattle.std.specs.Prelude.{All}
use Rattle.mw_commands.specs.Commands.Tautology.{equations, most_equations}
use Rattle.mw_heap.specs.Objects.{object_at, IsIn}
use Rattle.mw_taut.specs.declared.case.Outcome.TheVariants.{Proof, Against}
use Rattle.mw_taut.specs.Decided.{IsTableOf}
use Rattle.mw_taut.proofs.DecidedBy.{first_posed, whole_decided}
use Rattle.mw_taut.proofs.Posed.{none_proved}
use Rattle.mw_taut.proofs.deciding.decided.Goals as goal

pub by_cases-requires : goal.by_cases-requires
by_cases-requires c =
    let A = c.args.arity.now in
    let os = c.allow_looks.new.self.objects in
    let t = c.in_ok-table.table in
    let w = c.requires.formula in
    let table = subst (λ h. IsTableOf h w.0 t) (sym c.allow_looks.ensures) (c.in_ok-table.ensures A w.0 w.1 w.2) in
    let within = subst (λ h. IsIn h c.args.f) (sym c.allow_looks.ensures) c.requires.within in
    record {
      at_in = record { formula = within; equations = subst (All (IsIn os)) (sym c.as_slice.ensures.value) table.inside.equations };
      proved = none_proved A os c.new-proved.result c.new-proved.ensures.empty;
      posed = (w.0, [], equations w.0, first_posed A os c.args.f w.0 t _ c.as_slice.ensures.value (ap (λ h. object_at h c.args.f) c.allow_looks.ensures ∙ w.1) w.2 table);
    }

pub returns-in-Proof-clause-decided : goal.returns-in-Proof-clause-decided
returns-in-Proof-clause-decided c = λ F e f.
    let t = c.in_ok-table.table in
    let few : length t.equations.items ≤ most_equations = omega (arith, c.if-len-gt-MOST_EQUATIONS.false, c.len.ensures, t.equations.ok.0) in
    let table = c.in_ok-table.ensures c.args.arity.now F e f in
    whole_decided c.args.arity.now F _ _ c.by_cases.new.heap.objects c.allow_looks.ensures c.args.f t _ c.as_slice.ensures.value few e f table _ (Proof c.in-Proof.p) c.in-Proof.is c.in_ok-p.ensures.decides c.in_ok-p.ensures.within c.in_range.ensures

pub returns-clause-decided : goal.returns-clause-decided
returns-clause-decided c = λ F e f.
    let t = c.in_ok-table.table in
    let few : length t.equations.items ≤ most_equations = omega (arith, c.if-len-gt-MOST_EQUATIONS.false, c.len.ensures, t.equations.ok.0) in
    let table = c.in_ok-table.ensures c.args.arity.now F e f in
    whole_decided c.args.arity.now F _ _ c.by_cases.new.heap.objects c.allow_looks.ensures c.args.f t _ c.as_slice.ensures.value few e f table _ (Against c.in-Against.c) c.in-Against.is c.in_ok-p.ensures.decides c.in_ok-p.ensures.within tt
