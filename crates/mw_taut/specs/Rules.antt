-- What the rules of the table make.
use Rattle.std.specs.Prelude.{ℕ, List, map}
use Rattle.mw_model.specs.Terms.Object.{Object}
use Rattle.mw_build.specs.Rules.{made_of}
use Rattle.mw_taut.specs.declared.rules.TheConstants.{RULES}

-- the rule of this number, of the given objects
unfoldable pub rule_made : ℕ → List Object → Object
rule_made n given = made_of (map (λ x. x.now) RULES) n given
