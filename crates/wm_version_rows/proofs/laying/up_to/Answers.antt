use Rattle.std.proofs.Common.{nat_le, rules}
use Rattle.std.proofs.lemmas.Fn.{always_returns_same}
use Rattle.std.proofs.lemmas.List.Sorted.{IsPartitionedBy-leb}
use Rattle.wm_version_rows.proofs.Rising.{front_passes, in_order}
use Rattle.wm_ids.specs.declared.versioned.Versioned.{Versioned}
use Rattle.wm_version_rows.proofs.laying.up_to.Goals as goal

pub returns : goal.returns
returns c =
    let point = c.partition_point-count.ensures.partitioned (λ (e : Versioned). nat_le e.version c.args.top) (always_returns_same _ _ _ (λ a r q e. search rules))
    (IsPartitionedBy-leb (λ (e : Versioned). e.version) c.args.versions.now c.args.top (in_order 0 c.args.versions.now c.requires)) in
    front_passes (λ (e : Versioned). nat_le e.version c.args.top) c.args.versions.now c.partition_point-count.result c.partition_point-count.ensures.bound point
