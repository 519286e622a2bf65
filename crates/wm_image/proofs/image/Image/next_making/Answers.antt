use Rattle.std.proofs.Common.{◌+◌, ◌==◌, ℕ, nat_lt, ap, ◌∙◌}
use Rattle.std.specs.List.{list_all, list_any}
use Rattle.std.specs.Option.{option_copied}
use Rattle.wm_graph.specs.Parts.{parts_of}
use Rattle.wm_ids.proofs.Lasts.{LastOf}
use Rattle.wm_index.proofs.After.{all_before}
use Rattle.wm_image.proofs.Saved.{is_made, last_made, next_fits, next_none, next_some}
use Rattle.wm_spec.specs.declared.record.savepoint.Savepoint.{Savepoint}
use Rattle.wm_image.proofs.image.Image.next_making.Goals as goal

pub making_after-requires : goal.making_after-requires
making_after-requires c =
    next_fits (parts_of c.args.self.now) c.requires (option_copied c.last_key.result)
    (last_made c.self.inside.kept c.self.inside.index c.self.invariant.0 c.args.self.now c.self.view_is (option_copied c.last_key.result) c.last_key.ensures.ordered c.last_key.ensures.last)

-- the last making is that of a savepoint
last : (c : goal.After-making_after) → LastOf (is_made (parts_of c.args.self.now)) (option_copied c.last_key.result)
last c =
    last_made c.self.inside.kept c.self.inside.index c.self.invariant.0 c.args.self.now c.self.view_is (option_copied c.last_key.result) c.last_key.ensures.ordered c.last_key.ensures.last

pub returns-clause-above : goal.returns-clause-above
returns-clause-above c =
    ap (λ (n : ℕ). list_all (λ (x : Savepoint). nat_lt x.making n) (parts_of c.args.self.now).savepoints) c.making_after.ensures
    ∙ all_before (λ (x : Savepoint). x.making) (parts_of c.args.self.now).savepoints 1 (option_copied c.last_key.result) (last c)

pub returns-clause-none : goal.returns-clause-none
returns-clause-none c = λ none. c.making_after.ensures ∙ next_none (parts_of c.args.self.now) (option_copied c.last_key.result) (last c) none

pub returns-clause-last : goal.returns-clause-last
returns-clause-last c = λ x xs some.
    ap (λ (n : ℕ). list_any (λ (y : Savepoint). (y.making + 1) == n) (parts_of c.args.self.now).savepoints) c.making_after.ensures
    ∙ next_some (parts_of c.args.self.now) (option_copied c.last_key.result) (last c) x xs some
