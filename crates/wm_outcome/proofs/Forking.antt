-- What comes of a plan makes a savepoint or a workspace at most, where the plan does.
use Rattle.std.proofs.Common.{◌≡◌, ◌≤◌, ℕ, true, List, [], length, Option, Some, None, refl, arith}
use Rattle.std.specs.List.{list_all}
use Rattle.wm_base.specs.declared.refusal.Refusal.{Refusal}
use Rattle.wm_model.specs.Step.{Plan, done_so, for_named, for_text, least, outcome, refused_or}
use Rattle.wm_outline.specs.Outline.{SpaceOutline}
use Rattle.wm_print.specs.Texts.{Answer}
use Rattle.wm_state.specs.Drafts.{is_fork}
use Rattle.wm_state.specs.declared.edit.Edit.{Edit}

abbrev pub Forks : List Edit → Type 0
Forks es = (list_all is_fork es ≡ true) × (length es ≤ 1)

no_forks : Forks []
no_forks = (refl, omega arith)

pub forks_outcome : (q : Plan) → Forks q.edits → Forks (outcome q).edits
forks_outcome q forks = by_least (least q.faults)
  where
    by_least : (f : Option Refusal) → Forks (refused_or f (done_so q)).edits
    by_least None = forks
    by_least (Some refusal) = no_forks

pub forks_text : (text fault : Option (List ℕ)) (act : List ℕ → Plan) → ((name : List ℕ) → Forks (act name).edits) → Forks (for_text text fault act).edits
forks_text None fault act each = no_forks
forks_text (Some name) fault act each = each name

pub forks_named : (lacks : Answer) (act : SpaceOutline → Plan) (found : Option SpaceOutline) → ((x : SpaceOutline) → Forks (act x).edits) → Forks (for_named lacks act found).edits
forks_named lacks act None each = no_forks
forks_named lacks act (Some x) each = each x
