-- The piece of the text that differs from profile to profile.
use Rattle.std.specs.Prelude.{ℕ, List}
use Rattle.mw_heap.specs.declared.vocabulary.profile.Profile.{Profile}
use Rattle.mw_heap.specs.declared.vocabulary.profile.Profile.TheVariants.{One, Two}
use Rattle.mw_preamble.specs.declared.text.TheConstants.{OF_ONE, OF_TWO}

abbrev pub differing : Profile → List ℕ
differing One = OF_ONE.now
differing Two = OF_TWO.now
