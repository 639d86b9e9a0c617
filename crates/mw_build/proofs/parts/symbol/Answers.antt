-- The name of a variable is that of its bytes.
use Rattle.std.proofs.Common.{ap, ◌∙◌}
use Rattle.std.proofs.lemmas.Result.{IfOk-weaker}
use Rattle.mw_model.specs.Terms.Object.{Symbol, name_of_bytes}
use Rattle.mw_model.proofs.Names.{name_of_bytes-bytes}
use Rattle.mw_build.proofs.parts.symbol.Goals as goal

pub returns-clause-made : goal.returns-clause-made
returns-clause-made c =
    let name = ap (λ b. Symbol (name_of_bytes b)) c.name.ensures.name ∙ ap Symbol (name_of_bytes-bytes _) in
    IfOk-weaker c.symbol.result _ _ (λ r m. (m.0, m.1 ∙ name)) c.symbol.ensures.made
