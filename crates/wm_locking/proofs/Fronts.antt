-- What LockRows and UnlockRows ask first comes before what they do with rows, by the places of what they are refused for.
use Rattle.std.proofs.Common.{◌≡◌, ℕ, ◌≤◌, nat_le, not, Bool, true, false, if◌then◌else◌, List, [], ◌∷◌, ◌++◌, Option, Some, None, unwrap_or, refl, sym, ap, ◌∙◌, arith}
use Rattle.std.proofs.lemmas.Bool.{and_from, and_parts, leb-true}
use Rattle.std.specs.List.{list_all}
use Rattle.std.specs.Option.{option_map, option_map_or}
use Rattle.wm_base.specs.declared.refusal.FormRefusal.TheVariants.{Wm012}
use Rattle.wm_base.specs.declared.refusal.Refusal.{Refusal}
use Rattle.wm_base.specs.declared.refusal.Refusal.TheVariants.{Form, Space}
use Rattle.wm_base.specs.declared.refusal.SpaceRefusal.TheVariants.{Wm033}
use Rattle.wm_calls.specs.Arguments.{text_given}
use Rattle.wm_calls.specs.Faults.{argument_fault}
use Rattle.wm_decided.specs.Keys.{columns_of_keys}
use Rattle.wm_grammar.specs.declared.procedure.Parameter.TheVariants as parameters
use Rattle.wm_model.specs.Seating.{Stay}
use Rattle.wm_model.specs.Step.Places.{least, place, sooner}
use Rattle.wm_model.specs.Step.{Asking, Outcome, Plan, also, asking_faults, done_so, empty_period, fault_around, first_fault, for_named, for_rows, for_space, for_table, for_text, mistyped, no_table, no_workspace, outcome, refusal_of, refused_if, refused_or, refused_with, refusing, space_named, versioning, workspace_asked}
use Rattle.wm_outcome.proofs.Faults.{AtPlace, Ranked, at_for, at_if, rises}
use Rattle.wm_outcome.proofs.Named.{one_fault, told_first}
use Rattle.wm_outline.specs.Outline.{Outline, SpaceOutline}
use Rattle.wm_print.specs.Texts.{Answer, Refused}
use Rattle.wm_reader.specs.Reading.{folded}
use Rattle.wm_spec.specs.declared.record.table.Table.{Table}
use Rattle.wm_state.specs.State.{table_named}
use Rattle.wm_typing.specs.Names.{unknown_in_filter}
use Rattle.wm_typing.specs.Types.{mistyped_in_filter}
use Rattle.wm_locking.specs.Asked.{Acts, AreLate, given_faults, is_late}

-- ---- the fault of the least place

-- what passes a test for each passes it for that one
abbrev passes : (Refusal → Bool) → Option Refusal → Bool
passes test f = option_map_or test f true

least_passes : (test : Refusal → Bool) (fs : List (Option Refusal)) → list_all (passes test) fs ≡ true → passes test (least fs) ≡ true
unfolding least
least_passes test [] all = refl
least_passes test (f ∷ fs) all = let h = and_parts (passes test f) (list_all (passes test) fs) all in by_both f (least fs) h.0 (least_passes test fs h.1)
  where
    by_both : (f g : Option Refusal) → passes test f ≡ true → passes test g ≡ true → passes test (sooner f g) ≡ true
    by_both None g one other = other
    by_both (Some r) None one other = one
    by_both (Some r) (Some q) one other = by_test (nat_le (place r) (place q))
      where
        by_test : (b : Bool) → passes test (if b then Some r else Some q) ≡ true
        by_test true = one
        by_test false = other

-- a fault before those that are not of a lesser place
least_here : (r : Refusal) (fs : List (Option Refusal)) → list_all (passes (λ q. nat_le (place r) (place q))) fs ≡ true → least (Some r ∷ fs) ≡ Some r
unfolding least
least_here r fs all = by_rest (least fs) (least_passes (λ q. nat_le (place r) (place q)) fs all)
  where
    by_rest : (o : Option Refusal) → passes (λ q. nat_le (place r) (place q)) o ≡ true → sooner (Some r) o ≡ Some r
    by_rest None e = refl
    by_rest (Some q) e = rw e refl

-- a fault stands behind a place
abbrev pub is_behind : ℕ → Option Refusal → Bool
is_behind k f = passes (λ q. nat_le k (place q)) f

behind_less : (j k : ℕ) (fs : List (Option Refusal)) → j ≤ k → list_all (is_behind k) fs ≡ true → list_all (is_behind j) fs ≡ true
behind_less j k [] le all = refl
behind_less j k (f ∷ fs) le all =
    let h = and_parts (is_behind k f) (list_all (is_behind k) fs) all in and_from (is_behind j f) (list_all (is_behind j) fs) (by_fault f h.0) (behind_less j k fs le h.1)
  where
    by_fault : (f : Option Refusal) → is_behind k f ≡ true → is_behind j f ≡ true
    by_fault None e = refl
    by_fault (Some q) e = grind (arith, le, leb-true k (place q) e)

-- faults in the order of their places, before those behind them: the first is told
front_told : (js : List ℕ) (k : ℕ) (gs hs : List (Option Refusal)) (r : Refusal) → Ranked js gs → rises js ≡ true → list_all (λ j. nat_le j k) js ≡ true → list_all (is_behind k) hs ≡ true → Some r ≡ first_fault gs → least (gs ++ hs) ≡ Some r
unfolding least
front_told [] k [] hs r ranked up most late told = absurd (cc)
front_told [] k (g ∷ gs) hs r ranked up most late told = absurd ranked
front_told (j ∷ js) k [] hs r ranked up most late told = absurd ranked
front_told (j ∷ js) k (None ∷ gs) hs r ranked up most late told = front_told js k gs hs r ranked.1 (and_parts (list_all (nat_le j) js) (rises js) up).1 (and_parts (nat_le j k) _ most).1 late told
front_told (j ∷ js) k (Some q ∷ gs) hs r ranked up most late told =
    least_here q (gs ++ hs) (rest js gs ranked.1 (and_parts (list_all (nat_le j) js) (rises js) up).0) ∙ sym told
  where
    behind : (i : ℕ) (f : Option Refusal) → AtPlace i f → nat_le j i ≡ true → is_behind (place q) f ≡ true
    behind i None here le = refl
    behind i (Some p) here le = ap (λ n. nat_le n (place p)) ranked.0 ∙ ap (nat_le j) here ∙ le

    rest : (is : List ℕ) (fs : List (Option Refusal)) → Ranked is fs → list_all (nat_le j) is ≡ true → list_all (is_behind (place q)) (fs ++ hs) ≡ true
    rest [] [] ranked' more = behind_less (place q) k hs (grind (arith, ranked.0, leb-true j k (and_parts (nat_le j k) _ most).0)) late
    rest [] (f ∷ fs) ranked' more = absurd ranked'
    rest (i ∷ is) [] ranked' more = absurd ranked'
    rest (i ∷ is) (f ∷ fs) ranked' more =
        let h = and_parts (nat_le j i) (list_all (nat_le j) is) more in and_from (is_behind (place q) f) (list_all (is_behind (place q)) (fs ++ hs)) (behind i f ranked'.0 h.0) (rest is fs ranked'.1 h.1)

-- where there is none of the first, what is told is of the others
passed : (gs fs : List (Option Refusal)) → first_fault gs ≡ None → least (gs ++ fs) ≡ least fs
unfolding least
passed [] fs none = refl
passed (None ∷ gs) fs none = passed gs fs none
passed (Some r ∷ gs) fs none = absurd (cc)

-- ---- no table

-- a plan that is refused at once
pub refused_once : (answer : Answer) (r : Refusal) (q : Outcome) → answer ≡ Refused r → q ≡ record { edits = []; seating = Stay; answer = answer } → q ≡ outcome (refusing answer)
refused_once answer r q is says =
    told_first (refusing answer) (refusal_of answer) q (one_fault (refusal_of answer)) (by_first (refusal_of answer))
    (says ∙ ap (λ (a : Answer). let o : Outcome = record { edits = []; seating = Stay; answer = a } in o) is ∙ sym (ap (λ a. refused_or (refusal_of a) (done_so (refusing a))) is))
  where
    by_first : (f : Option Refusal) → f ≡ first_fault (f ∷ [])
    by_first None = refl
    by_first (Some r) = refl

module _ (a : Asking) (act : Acts) (o : Outline) where
  abbrev fault : Option (List ℕ)
  fault = argument_fault a.procedure a.args

  pub nameless : (q : Outcome) → None ≡ text_given a.procedure a.args parameters.TableName → q ≡ record { edits = []; seating = Stay; answer = mistyped (unwrap_or fault []) } → q ≡ outcome (for_rows a act o)
  nameless q none says = rw (sym none) (refused_once (mistyped (unwrap_or fault [])) _ q refl says)

  pub tableless : (text name : List ℕ) (q : Outcome) → Some text ≡ text_given a.procedure a.args parameters.TableName → name ≡ folded text → None ≡ table_named name o.tables → q ≡ record { edits = []; seating = Stay; answer = no_table name }
      → q ≡ outcome (for_rows a act o)
  tableless text name q some is none says =
      rw (sym some)
      (refused_once (no_table name) _ q refl says
      ∙ ap (λ t. outcome (for_table (no_table name) (for_space a act o) t)) none
      ∙ ap (λ n. outcome (for_table (no_table n) (for_space a act o) (table_named n o.tables))) is)

  pub tabled : (text name : List ℕ) (t : Table) → Some text ≡ text_given a.procedure a.args parameters.TableName → name ≡ folded text → Some t ≡ table_named name o.tables → for_rows a act o ≡ for_space a act o t
  tabled text name t some is found =
      rw (sym some)
      (sym
      (ap (λ t. for_table (no_table name) (for_space a act o) t) found
      ∙ ap (λ n. for_table (no_table n) (for_space a act o) (table_named n o.tables)) is))

  -- ---- a table

  module _ (t : Table) where
    given_ranked : Ranked (11 ∷ 12 ∷ 14 ∷ []) (given_faults a t)
    given_ranked = (
      at_if 11 (not t.versioned) (versioning t.name false) refl,
      (
        at_unkeyed (unknown_in_filter (columns_of_keys t) a.condition),
        (at_for 14 mistyped (λ y. refl) (fault_around a.procedure a.args (mistyped_in_filter (columns_of_keys t) a.condition)), tt),
      ),
    )
      where
        at_unkeyed : (o : Option (List ℕ)) → AtPlace 12 (option_map (λ (name : List ℕ). Form (Wm012 name)) o)
        at_unkeyed None = tt
        at_unkeyed (Some name) = refl

    -- what comes behind that
    abbrev rest : Option SpaceOutline → Plan
    rest x = also (refused_if a.empty empty_period ∷ []) (for_named (no_workspace (workspace_asked a)) (act t) x)

    rest_late : AreLate act → (x : Option SpaceOutline) → list_all (is_behind 14) (rest x).faults ≡ true
    rest_late late x = and_from (is_behind 14 (refused_if a.empty empty_period)) (list_all (is_behind 14) (for_named (no_workspace (workspace_asked a)) (act t) x).faults) (by_empty a.empty) (by_space x)
      where
        by_empty : (b : Bool) → is_behind 14 (refused_if b empty_period) ≡ true
        by_empty true = refl
        by_empty false = refl

        later : (f : Option Refusal) → is_late f ≡ true → is_behind 14 f ≡ true
        later None e = refl
        later (Some r) e = grind (arith, e)

        all_later : (fs : List (Option Refusal)) → list_all is_late fs ≡ true → list_all (is_behind 14) fs ≡ true
        all_later [] e = refl
        all_later (f ∷ fs) e = let h = and_parts (is_late f) (list_all is_late fs) e in and_from (is_behind 14 f) (list_all (is_behind 14) fs) (later f h.0) (all_later fs h.1)

        by_space : (x : Option SpaceOutline) → list_all (is_behind 14) (for_named (no_workspace (workspace_asked a)) (act t) x).faults ≡ true
        by_space None = refl
        by_space (Some s) = all_later (act t s).faults (late t s)

    pub given_told : AreLate act → (r : Refusal) (q : Outcome) → Some r ≡ first_fault (given_faults a t) → q ≡ refused_with r → q ≡ outcome (for_space a act o t)
    given_told late r q told says =
        says
        ∙ ap (λ f. refused_or f (done_so (for_space a act o t)))
        (sym (front_told (11 ∷ 12 ∷ 14 ∷ []) 14 (given_faults a t) (rest (space_named (workspace_asked a) o)).faults r given_ranked refl refl (rest_late late (space_named (workspace_asked a) o)) told))

    -- where nothing is wrong so far
    module _ (clear : None ≡ first_fault (given_faults a t)) where
      cleared : (x : Option SpaceOutline) → outcome (rest x) ≡ outcome (also (asking_faults a t) (for_named (no_workspace (workspace_asked a)) (act t) x))
      cleared x = ap (λ f. refused_or f (done_so (rest x))) (sym (passed (given_faults a t) (rest x).faults (sym clear)))

      pub spaceless : (name : List ℕ) (q : Outcome) → name ≡ workspace_asked a → None ≡ space_named name o → q ≡ record { edits = []; seating = Stay; answer = no_workspace name } → q ≡ outcome (for_space a act o t)
      unfolding least
      spaceless name q is none says =
          says
          ∙ ap (λ n. let x : Outcome = record { edits = []; seating = Stay; answer = no_workspace n } in x) is
          ∙ by_empty a.empty
          ∙ cleared None
          ∙ ap (λ x. outcome (also (asking_faults a t) (for_named (no_workspace (workspace_asked a)) (act t) x))) (none ∙ ap (λ n. space_named n o) is)
        where
          by_empty : (b : Bool) → (let x : Outcome = record { edits = []; seating = Stay; answer = no_workspace (workspace_asked a) } in x) ≡ outcome (also (refused_if b empty_period ∷ []) (refusing (no_workspace (workspace_asked a))))
          by_empty true = refl
          by_empty false = refl

      module _ (name : List ℕ) (x : SpaceOutline) (is : name ≡ workspace_asked a) (found : space_named name o ≡ Some x) where
        housed : outcome (rest (Some x)) ≡ outcome (for_space a act o t)
        housed = cleared (Some x) ∙ ap (λ y. outcome (also (asking_faults a t) (for_named (no_workspace (workspace_asked a)) (act t) y))) (sym found ∙ ap (λ n. space_named n o) is)

        pub emptied : AreLate act → (q : Outcome) → a.empty ≡ true → q ≡ record { edits = []; seating = Stay; answer = empty_period } → q ≡ outcome (for_space a act o t)
        emptied late q empty says =
            says
            ∙ ap (λ f. refused_or f (done_so (act t x))) (sym (least_here (Space Wm033) (act t x).faults (all_late (act t x).faults (late t x))))
            ∙ ap (λ b. outcome (also (refused_if b empty_period ∷ []) (act t x))) (sym empty)
            ∙ housed
          where
            one_late : (f : Option Refusal) → is_late f ≡ true → is_behind 27 f ≡ true
            one_late None e = refl
            one_late (Some r) e = grind (arith, e)

            all_late : (fs : List (Option Refusal)) → list_all is_late fs ≡ true → list_all (is_behind 27) fs ≡ true
            all_late [] e = refl
            all_late (f ∷ fs) e = let h = and_parts (is_late f) (list_all is_late fs) e in and_from (is_behind 27 f) (list_all (is_behind 27) fs) (one_late f h.0) (all_late fs h.1)

        pub sited : a.empty ≡ false → outcome (act t x) ≡ outcome (for_space a act o t)
        unfolding least
        sited lasting = ap (λ b. outcome (also (refused_if b empty_period ∷ []) (act t x))) (sym lasting) ∙ housed

-- ---- what holds of all that may come

module _ (a : Asking) (act : Acts) (o : Outline) (P : Plan → Type 0) where
  pub of_rows : ((answer : Answer) → P (refusing answer)) → ((t : Table) → P (also (asking_faults a t) (refusing (no_workspace (workspace_asked a))))) → ((t : Table) (x : SpaceOutline) → P (also (asking_faults a t) (act t x))) → P (for_rows a act o)
  of_rows once homeless each = by_name (text_given a.procedure a.args parameters.TableName)
    where
      by_space : (t : Table) (x : Option SpaceOutline) → P (also (asking_faults a t) (for_named (no_workspace (workspace_asked a)) (act t) x))
      by_space t None = homeless t
      by_space t (Some x) = each t x

      by_table : (name : List ℕ) (t : Option Table) → P (for_table (no_table name) (for_space a act o) t)
      by_table name None = once (no_table name)
      by_table name (Some t) = by_space t (space_named (workspace_asked a) o)

      by_name : (text : Option (List ℕ)) → P (for_text text (argument_fault a.procedure a.args) (λ name. for_table (no_table (folded name)) (for_space a act o) (table_named (folded name) o.tables)))
      by_name None = once (mistyped (unwrap_or (argument_fault a.procedure a.args) []))
      by_name (Some text) = by_table (folded text) (table_named (folded text) o.tables)
