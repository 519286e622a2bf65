-- Whether a savepoint of a name is found among the records of a workspace is told of its outline.
use Rattle.std.proofs.Common.{◌≡◌, ◌||◌, ℕ, Bool, true, false, cond, List, [], ◌∷◌, map, Option, Some, None, Bor, is_some, refl, ap, ◌∙◌}
use Rattle.std.specs.List.{find, list_any}
use Rattle.std.specs.Option.{option_copied}
use Rattle.std.specs.Str.{bytes_eq}
use Rattle.wm_spec.specs.declared.record.savepoint.Savepoint.{Savepoint}
use Rattle.wm_state.specs.Standing.{SavepointFields, saved_fields}

any_named : (name : List ℕ) (xs : List Savepoint) → is_some (find (λ (x : Savepoint). bytes_eq name x.name) xs) ≡ list_any (λ (k : SavepointFields). bytes_eq name k.name) (map saved_fields xs)
any_named name [] = refl
any_named name (x ∷ xs) = by_test (bytes_eq name x.name) (any_named name xs)
  where
    by_test : (b : Bool) → is_some (find (λ (x : Savepoint). bytes_eq name x.name) xs) ≡ list_any (λ (k : SavepointFields). bytes_eq name k.name) (map saved_fields xs)
        → is_some (cond b (Some x) (find (λ (x : Savepoint). bytes_eq name x.name) xs)) ≡ (b || list_any (λ (k : SavepointFields). bytes_eq name k.name) (map saved_fields xs))
    by_test true rest = refl
    by_test false rest = rest

pub has_where : (name bytes : List ℕ) (xs : List Savepoint) (found : Option (Bor Savepoint)) (b : Bool) → bytes ≡ name → option_copied found ≡ find (λ (x : Savepoint). bytes_eq bytes x.name) xs → b ≡ is_some found
    → b ≡ list_any (λ (k : SavepointFields). bytes_eq name k.name) (map saved_fields xs)
has_where name bytes xs found b same is there =
    there ∙ copied found ∙ ap (λ (o : Option Savepoint). is_some o) is ∙ ap (λ (n : List ℕ). is_some (find (λ (x : Savepoint). bytes_eq n x.name) xs)) same ∙ any_named name xs
  where
    copied : (r : Option (Bor Savepoint)) → is_some r ≡ is_some (option_copied r)
    copied None = refl
    copied (Some x) = refl
