use Rattle.std.proofs.Common.{length, rules}
use Rattle.std.proofs.lemmas.Fn.{always_returns_same}
use Rattle.std.specs.Ordering.{nat_cmp}
use Rattle.wm_chunks.proofs.Rising.{fitting_place, found_place}
use Rattle.wm_ids.specs.Versioned.{entry_version}
use Rattle.wm_ids.proofs.Placing.{found_within}
use Rattle.wm_ids.specs.declared.versioned.Versioned.{Versioned}
use Rattle.wm_ids.proofs.versioned.search_version.Goals as goal

pub returns-clause-found : goal.returns-clause-found
returns-clause-found c =
    found_place entry_version 0 c.args.versions.now c.args.version c.binary_search_by.result c.requires c.binary_search_by.ensures.bound
    (c.binary_search_by.ensures.position (λ (e : Versioned). nat_cmp e.version c.args.version) (always_returns_same _ _ _ (λ a r q e. search rules)))

pub returns-clause-within : goal.returns-clause-within
returns-clause-within c = (found_within (length c.args.versions.now) c.binary_search_by.result c.binary_search_by.ensures.bound).0

pub returns-clause-fits : goal.returns-clause-fits
returns-clause-fits c =
    fitting_place entry_version 0 c.args.versions.now c.args.version c.binary_search_by.result c.requires c.binary_search_by.ensures.bound
    (c.binary_search_by.ensures.position (λ (e : Versioned). nat_cmp e.version c.args.version) (always_returns_same _ _ _ (λ a r q e. search rules)))

pub returns-clause-between : goal.returns-clause-between
returns-clause-between c = (found_within (length c.args.versions.now) c.binary_search_by.result c.binary_search_by.ensures.bound).1
