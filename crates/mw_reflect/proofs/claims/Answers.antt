-- The lemma of ClaimsTrue.
use Rattle.mw_reflect.proofs.ClaimsTrue.{claim_true}
use Rattle.mw_reflect.proofs.claims.Goals as goal

pub returns : goal.returns
returns c = claim_true
