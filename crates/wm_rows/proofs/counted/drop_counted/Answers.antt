use Rattle.std.proofs.Common.{sym, ◌∙◌, subst}
use Rattle.std.specs.List.Sorted.{IsStrictlySortedBy}
use Rattle.std.specs.Ordering.{nat_cmp}
use Rattle.wm_rows.proofs.CountLaws.{counted_dropped, enough}
use Rattle.wm_rows.proofs.Times.{keys_of-maps_of, times_removed}
use Rattle.wm_rows.proofs.Writing.{drop_one}
use Rattle.wm_rows.specs.Maps.{maps_of}
use Rattle.wm_rows.proofs.counted.drop_counted.Goals as goal

pub returns-in_default-clause-groups : goal.returns-in_default-clause-groups
returns-in_default-clause-groups c = λ v. drop_one c.args.layers.now.entries c.remove.new.self.entries c.args.version v (c.remove.ensures.updates.0 v)

pub count_layer_less-requires-clause-enough : goal.count_layer_less-requires-clause-enough
count_layer_less-requires-clause-enough c =
    enough (maps_of c.args.layers.now.entries) (maps_of c.remove.new.self.entries) (maps_of c.args.counts.now.entries) c.in-Some.layer.entries c.requires
    (times_removed c.args.layers.now.entries c.remove.new.self.entries c.args.version c.in-Some.layer (sym c.remove.ensures.value ∙ c.in-Some.is) c.remove.ensures.entries)

pub returns-clause-counted : goal.returns-clause-counted
returns-clause-counted c =
    counted_dropped (maps_of c.args.layers.now.entries) (maps_of c.remove.new.self.entries) (maps_of c.args.counts.now.entries) (maps_of c.count_layer_less.new.counts.entries) c.args.version c.in-Some.layer.entries c.requires
    (times_removed c.args.layers.now.entries c.remove.new.self.entries c.args.version c.in-Some.layer (sym c.remove.ensures.value ∙ c.in-Some.is) c.remove.ensures.entries)
    (subst (λ l. IsStrictlySortedBy nat_cmp l) (sym (keys_of-maps_of c.remove.new.self.entries)) c.remove.ensures.ordered)
    (λ v. drop_one c.args.layers.now.entries c.remove.new.self.entries c.args.version v (c.remove.ensures.updates.0 v))
    c.count_layer_less.ensures.positive
    c.count_layer_less.ensures.less

pub returns-clause-groups : goal.returns-clause-groups
returns-clause-groups c = λ v. drop_one c.args.layers.now.entries c.remove.new.self.entries c.args.version v (c.remove.ensures.updates.0 v)
