-- What decisions copy is sound where the lists are of which it is copied, and so is what they come to.
use Rattle.std.proofs.Common.{◌≡◌, ℕ, zero, suc, ◌+◌, ◌==◌, Bool, true, false, if◌then◌else◌, List, [], ◌∷◌, length, map, slice_get, Option, Some, None, is_some, option_map, refl, sym, ap, ◌∙◌, subst, arith}
use Rattle.std.proofs.lemmas.Bool.{and_parts}
use Rattle.std.proofs.lemmas.Option.{same_Some}
use Rattle.std.specs.Bool.{then_some}
use Rattle.std.specs.List.{cons_option, filter_map, flat_map}
use Rattle.std.specs.Option.{option_and_then, option_or}
use Rattle.wm_base.specs.declared.value.Value.{Value}
use Rattle.wm_decided.specs.Deciding.{copied_on, decided_on, decision_of, decisions_in, told_on}
use Rattle.wm_decided.specs.Netted.{Copy, cells_decided, copied_at, ends_decided, entries_decided, entry_copied, same_copy}
use Rattle.wm_decided.specs.Staged.{copy_of}
use Rattle.wm_decided.specs.declared.keep.Keep.{Keep}
use Rattle.wm_decided.specs.declared.keep.Keep.TheVariants.{Parent, Child, Base}
use Rattle.wm_net.specs.Conflicts.{Sides, Stamps}
use Rattle.wm_net.specs.Groups.{Group, cell}
use Rattle.wm_net.specs.Listed.{Stretch, value_at, within}
use Rattle.wm_net.specs.Nets.{one_stamp}
use Rattle.wm_net.specs.Places.{last_position}
use Rattle.wm_spec.specs.Lists.{Cell, Entry, Told, covers, is_of, told}
use Rattle.wm_spec.specs.Stretches.{cut_in, cuts}
use Rattle.wm_state.proofs.Laying.{key_same}
use Rattle.wm_state.specs.State.{Decision}
use Rattle.wm_model.specs.Lawful.{Each, IsSound, staged_of}
use Rattle.wm_model.proofs.Lawful.Entries.{each_append, each_split}
use Rattle.wm_model.proofs.Lawful.Nets.{Tells, Valued, again_sound, each_listing, each_mapped, told_tells, valued_stretches}

-- ---- what a decision copies

on_valued : (tells : ℕ → Told) (next : ℕ) (es : List Entry) (g : Group) (s : Stretch Stamps) → Each (IsSound tells next) es → Valued (Tells tells next g.key) (told_on es g s)
on_valued tells next es g s each =
    valued_stretches (Tells tells next g.key) one_stamp (λ t. if within s.from s.till t then told es (cell g t) else None) 0 (cut_in s.from 0 (cut_in s.till 0 (cuts es g.table g.key)))
    (λ t x is. told_tells tells next es (cell g t) x each (inside (within s.from s.till t) (told es (cell g t)) x is))
  where
    inside : (b : Bool) (o : Option Told) (x : Told) → (if b then o else None) ≡ Some x → o ≡ Some x
    inside true o x is = is
    inside false o x is = absurd (cc)

copied_valued : (tells : ℕ → Told) (next : ℕ) (keep : Keep) (s : Sides) (x : Group × Stretch Stamps) (ss : List (Stretch Told)) → Each (IsSound tells next) s.base → Each (IsSound tells next) s.parent → copied_on keep s x ≡ Some ss
    → Valued (Tells tells next x.0.key) ss
copied_valued tells next Parent s x ss base parent is = subst (Valued (Tells tells next x.0.key)) (same_Some (told_on s.parent x.0 x.1) ss is) (on_valued tells next s.parent x.0 x.1 parent)
copied_valued tells next Child s x ss base parent is = subst (Valued (Tells tells next x.0.key)) (same_Some [] ss is) tt
copied_valued tells next Base s x ss base parent is = by_base (is_some x.1.value.base) is
  where
    by_base : (b : Bool) → (if b then Some (told_on s.base x.0 x.1) else None) ≡ Some ss → Valued (Tells tells next x.0.key) ss
    by_base true is = subst (Valued (Tells tells next x.0.key)) (same_Some (told_on s.base x.0 x.1) ss is) (on_valued tells next s.base x.0 x.1 base)
    by_base false is = absurd (cc)

decided_sound : (tells : ℕ → Told) (next : ℕ) (keep : Keep) (s : Sides) (xs : List (Group × Stretch Stamps)) → Each (IsSound tells next) s.base → Each (IsSound tells next) s.parent
    → Each (IsSound tells next) (flat_map staged_of (filter_map (decided_on keep s) xs))
decided_sound tells next keep s [] base parent = tt
decided_sound tells next keep s (x ∷ xs) base parent = by_copied (copied_on keep s x) refl (decided_sound tells next keep s xs base parent)
  where
    by_copied : (o : Option (List (Stretch Told))) → copied_on keep s x ≡ o → Each (IsSound tells next) (flat_map staged_of (filter_map (decided_on keep s) xs))
        → Each (IsSound tells next) (flat_map staged_of (cons_option (option_map (decision_of x (length s.log)) o) (filter_map (decided_on keep s) xs)))
    by_copied None is rest = rest
    by_copied (Some ss) is rest =
        let d = decision_of x (length s.log) ss in
        each_append (IsSound tells next) (staged_of d) (flat_map staged_of (filter_map (decided_on keep s) xs))
        (each_mapped (IsSound tells next) (Tells tells next x.0.key) (copy_of d) ss (λ t. again_sound tells next 0 [] (record { table = d.table; key = d.key }) t) (copied_valued tells next keep s x ss base parent is)) rest

pub decisions_sound : (tells : ℕ → Told) (next : ℕ) (keep : Keep) (s : Sides) (table : ℕ) (test : List Value → Bool) → Each (IsSound tells next) s.base → Each (IsSound tells next) s.parent
    → Each (IsSound tells next) (flat_map staged_of (decisions_in keep s table test))
decisions_sound tells next keep s table test base parent = decided_sound tells next keep s _ base parent

-- ---- what decisions come to

-- the last decision that covers a cell covers it
last_covers : (ds : List Decision) (c : Cell) (place : ℕ) (d : Decision) → last_position (map cells_decided ds) c ≡ Some place → slice_get ds place ≡ Some d → covers (cells_decided d) c ≡ true
last_covers [] c place d last is = absurd (cc)
last_covers (x ∷ xs) c place d last is = by_last (last_position (map cells_decided xs) c) (covers (cells_decided x) c) refl refl last (λ n. last_covers xs c n d)
  where
    by_last : (o : Option ℕ) (b : Bool) → last_position (map cells_decided xs) c ≡ o → covers (cells_decided x) c ≡ b → option_or (option_map (λ (n : ℕ). n + 1) o) (then_some b 0) ≡ Some place
        → ((n : ℕ) → last_position (map cells_decided xs) c ≡ Some n → slice_get xs n ≡ Some d → covers (cells_decided d) c ≡ true) → covers (cells_decided d) c ≡ true
    by_last (Some n) b later here e rest =
        let step : suc n ≡ n + 1 = omega arith in rest n later (ap (slice_get (x ∷ xs)) (step ∙ same_Some (n + 1) place e) ∙ is)
    by_last None true later here e rest =
        ap (λ (y : Decision). covers (cells_decided y) c) (sym (same_Some x d (ap (slice_get (x ∷ xs)) (same_Some 0 place e) ∙ is))) ∙ here
    by_last None false later here e rest = absurd (cc)

staged_at : (P : Entry → Type 0) (ds : List Decision) (place : ℕ) (d : Decision) → slice_get ds place ≡ Some d → Each P (flat_map staged_of ds) → Each P (staged_of d)
staged_at P [] place d is each = absurd (cc)
staged_at P (x ∷ xs) zero d is each = subst (λ (y : Decision). Each P (staged_of y)) (same_Some x d is) (each_split P (staged_of x) (flat_map staged_of xs) each).0
staged_at P (x ∷ xs) (suc n) d is each = staged_at P xs n d is (each_split P (staged_of x) (flat_map staged_of xs) each).1

-- what sound copies of a decision say at a moment
value_tells : (tells : ℕ → Told) (next : ℕ) (d : Decision) (ss : List (Stretch Told)) (t : ℕ) (x : Told) → Each (IsSound tells next) (map (copy_of d) ss) → value_at ss t ≡ Some x → Tells tells next d.key x
value_tells tells next d [] t x each is = absurd (cc)
value_tells tells next d (s ∷ ss) t x each is = by_value (value_at ss t) (within s.from s.till t) (value_tells tells next d ss t x each.1) is
  where
    by_value : (o : Option Told) (b : Bool) → (o ≡ Some x → Tells tells next d.key x) → option_or o (then_some b s.value) ≡ Some x → Tells tells next d.key x
    by_value (Some y) b rest is = rest is
    by_value None true rest is = subst (Tells tells next d.key) (same_Some s.value x is) (each.0.given, each.0.told, each.0.filled, each.0.keyed)
    by_value None false rest is = absurd (cc)

copied_tells : (tells : ℕ → Told) (next : ℕ) (ds : List Decision) (c : Cell) (x : Copy) → Each (IsSound tells next) (flat_map staged_of ds) → copied_at ds c ≡ Some x → Tells tells next c.key x.told
copied_tells tells next ds c x each is = by_place (last_position (map cells_decided ds) c) refl is
  where
    choice : ℕ → Option Decision → Option (ℕ × Decision)
    choice place o = option_map (λ (d : Decision). (place, d)) o

    copy : Option (ℕ × Decision) → Option Copy
    copy o = option_and_then (λ (y : ℕ × Decision). option_map (λ (t : Told). let made : Copy = record { place = y.0; told = t } in made) (value_at y.1.copied c.time)) o

    by_value : (place : ℕ) (d : Decision) → covers (cells_decided d) c ≡ true → Each (IsSound tells next) (staged_of d) → (o : Option Told) → value_at d.copied c.time ≡ o
        → option_map (λ (t : Told). let made : Copy = record { place = place; told = t } in made) o ≡ Some x → Tells tells next c.key x.told
    by_value place d here sound None value is = absurd (cc)
    by_value place d here sound (Some t) value is =
        let key : d.key ≡ c.key = key_same d.key c.key (and_parts (d.table == c.table) _ (and_parts (is_of c.table c.key (cells_decided d)) _ here).0).1 in
        subst (λ (y : Copy). Tells tells next c.key y.told) (same_Some (record { place = place; told = t }) x is) (subst (λ k. Tells tells next k t) key (value_tells tells next d d.copied c.time t sound value))

    by_decision : (place : ℕ) → last_position (map cells_decided ds) c ≡ Some place → (o : Option Decision) → slice_get ds place ≡ o → copy (choice place o) ≡ Some x → Tells tells next c.key x.told
    by_decision place last None found is = absurd (cc)
    by_decision place last (Some d) found is = by_value place d (last_covers ds c place d last found) (staged_at (IsSound tells next) ds place d found each) (value_at d.copied c.time) refl is

    by_place : (o : Option ℕ) → last_position (map cells_decided ds) c ≡ o → copy (option_and_then (λ (place : ℕ). choice place (slice_get ds place)) o) ≡ Some x → Tells tells next c.key x.told
    by_place None last is = absurd (cc)
    by_place (Some place) last is = by_decision place last (slice_get ds place) refl is

pub entries_sound : (tells : ℕ → Told) (next moment : ℕ) (user : List ℕ) (ds : List Decision) → Each (IsSound tells next) (flat_map staged_of ds) → Each (IsSound tells next) (entries_decided moment user ds)
entries_sound tells next moment user ds each =
    each_listing (IsSound tells next) same_copy (entry_copied moment user) (flat_map ends_decided ds) (copied_at ds)
    (λ g t s is. again_sound tells next moment user g (record { from = s.from; till = s.till; value = s.value.told }) (copied_tells tells next ds (cell g t) s.value each is))
