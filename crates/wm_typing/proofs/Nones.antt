-- What it says that nothing was found.
use Rattle.std.proofs.Common.{◌≡◌, ℕ, Bool, true, false, List, Option, None, Some, refl}
use Rattle.std.specs.Prelude.{not}
use Rattle.wm_typing.specs.Names.{unless}
use Rattle.wm_typing.specs.Refusals.{first_refusal}

-- the test does not fail
pub holds : (test : Bool) (text : List ℕ) → unless test text ≡ None → test ≡ true
holds true text e = refl
holds false text e = cc

-- what was looked for was not there
pub fails : (test : Bool) (text : List ℕ) → unless (not test) text ≡ None → test ≡ false
fails false text e = refl
fails true text e = cc

pub unknown_none : (u m k t : Option (List ℕ)) → first_refusal u m k t ≡ None → u ≡ None
unknown_none None m k t e = refl
unknown_none (Some x) m k t e = cc

pub mistyped_none : (u m k t : Option (List ℕ)) → first_refusal u m k t ≡ None → m ≡ None
mistyped_none None None k t e = refl
mistyped_none None (Some x) k t e = cc
mistyped_none (Some x) m k t e = cc

pub lacking_none : (u m k t : Option (List ℕ)) → first_refusal u m k t ≡ None → t ≡ None
lacking_none None None None None e = refl
lacking_none None None None (Some x) e = cc
lacking_none None None (Some x) t e = cc
lacking_none None (Some x) k t e = cc
lacking_none (Some x) m k t e = cc
