-- Steps on the device, one list after another.
use Rattle.std.proofs.Common.{◌⊎◌, ⊎_elim, inl, inr, List, [], ◌∷◌, ◌++◌, refl, sym, subst, Result, Ok, Err}
use Rattle.std.specs.Result.{OnErr}
use Rattle.wm_station.specs.History.{History, Synced}
use Rattle.wm_journal.specs.Writes.{Step, Write, Sync, Did, DidPart}

-- a fact that needs no case
pub on_err : {T E P : Type 0} (r : Result T E) → P → OnErr r P
on_err (Ok x) p = tt
on_err (Err e) p = p

-- no step was done
pub nothing_done : (steps : List Step) (h : History) → DidPart steps h h
nothing_done [] h = refl
nothing_done (Write at bytes ∷ steps) h = inl (inl refl)
nothing_done (Sync ∷ steps) h = inl refl

pub did_both : (front back : List Step) (old middle new : History) → Did front old middle → Did back middle new → Did (front ++ back) old new
did_both [] back old middle new same did = subst (λ (h : History). Did back h new) same did
did_both (Write at bytes ∷ steps) back old middle new first second = (first.0, first.1, did_both steps back first.0 middle new first.2 second)
did_both (Sync ∷ steps) back old middle new first second = did_both steps back (Synced old) middle new first second

pub did_part_of_front : (front back : List Step) (old new : History) → DidPart front old new → DidPart (front ++ back) old new
did_part_of_front [] back old new same = subst (λ (h : History). DidPart back old h) (sym same) (nothing_done back old)
did_part_of_front (Write at bytes ∷ steps) back old new (inl torn) = inl torn
did_part_of_front (Write at bytes ∷ steps) back old new (inr did) = inr (did.0, did.1, did_part_of_front steps back did.0 new did.2)
did_part_of_front (Sync ∷ steps) back old new (inl same) = inl same
did_part_of_front (Sync ∷ steps) back old new (inr did) = inr (did_part_of_front steps back (Synced old) new did)

pub did_part_of_back : (front back : List Step) (old middle new : History) → Did front old middle → DidPart back middle new → DidPart (front ++ back) old new
did_part_of_back [] back old middle new same did = subst (λ (h : History). DidPart back h new) same did
did_part_of_back (Write at bytes ∷ steps) back old middle new first second = inr (first.0, first.1, did_part_of_back steps back first.0 middle new first.2 second)
did_part_of_back (Sync ∷ steps) back old middle new first second = inr (did_part_of_back steps back (Synced old) middle new first second)

pub did_split : (front back : List Step) (old new : History) → Did (front ++ back) old new → (middle : History) × Did front old middle × Did back middle new
did_split [] back old new did = (old, refl, did)
did_split (Write at bytes ∷ steps) back old new did = let rest = did_split steps back did.0 new did.2 in (rest.0, (did.0, did.1, rest.1), rest.2)
did_split (Sync ∷ steps) back old new did = did_split steps back (Synced old) new did

pub part_split : (front back : List Step) (old new : History) → DidPart (front ++ back) old new → DidPart front old new ⊎ ((middle : History) × Did front old middle × DidPart back middle new)
part_split [] back old new did = inr (old, refl, did)
part_split (Write at bytes ∷ steps) back old new (inl torn) = inl (inl torn)
part_split (Write at bytes ∷ steps) back old new (inr did) =
    ⊎_elim (λ front. inl (inr (did.0, did.1, front))) (λ both. inr (both.0, (did.0, did.1, both.1), both.2)) (part_split steps back did.0 new did.2)
part_split (Sync ∷ steps) back old new (inl same) = inl (inl same)
part_split (Sync ∷ steps) back old new (inr did) =
    ⊎_elim (λ front. inl (inr front)) (λ both. inr both) (part_split steps back (Synced old) new did)
