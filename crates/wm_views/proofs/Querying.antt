-- What the code looks up for a session is what the records say.
use Rattle.std.proofs.Common.{◌≡◌, ℕ, ◌<◌, ◌==◌, ◌&&◌, nat_lt, Bool, true, false, if◌then◌else◌, List, Option, Some, None, Bor, is_some, unwrap_or, refl, sym, ap, subst, ◌∙◌}
use Rattle.std.proofs.lemmas.Bool.{eq-eqb, and_parts, true≢false}
use Rattle.std.specs.Option.{option_copied}
use Rattle.std.specs.Str.{bytes_eq}
use Rattle.wm_base.proofs.Plain.{copied_some, nonzero}
use Rattle.wm_listing.specs.declared.columns.Column.{Column}
use Rattle.wm_base.specs.declared.refusal.Refusal.{Refusal}
use Rattle.wm_syntax.specs.Trees.{Query}
use Rattle.wm_graph.specs.Parts.{Parts, space_of}
use Rattle.wm_graph.specs.Rules.{is_placed, is_short, is_space, keep_rules, live}
use Rattle.wm_spec.specs.declared.record.space.Space.{Space}
use Rattle.wm_spec.specs.declared.record.stored.Stored.{Stored}
use Rattle.wm_state.proofs.Apart.{found-passes}
use Rattle.wm_state.proofs.Mapped.{find-again}
use Rattle.wm_state.proofs.Named.{space_number}
use Rattle.wm_state.proofs.Spaces.{ruled_spaces}
use Rattle.wm_state.specs.State.{Session}
use Rattle.wm_telling.specs.Telling.{AreFamily}
use Rattle.wm_query_faults.specs.Asking.{query_fault}
use Rattle.wm_model.specs.Looking.{IsFamilyOf, IsLook, conflicting_space, space_named}
use Rattle.wm_model.specs.Planning.{tables_in}
use Rattle.wm_model.specs.Sources.{Look}
use Rattle.wm_model.specs.Step.{columns_in}
use Rattle.wm_views.specs.Looking.{look_view}
use Rattle.wm_views.specs.declared.looking.Look.{Look as LookNode}

-- ---- the workspace whose conflicts are looked at

-- the record of the number is found by its own
pub numbered : (p : Parts) (n : ℕ) (a : Space) → space_of p.spaces n ≡ Some a → space_of p.spaces a.number ≡ Some a
numbered p n a found = ap (space_of p.spaces) (space_number p n a found) ∙ found

-- the workspace that is looked at, by what is found of the name that was set
pub looked_up : (spaces : List Space) (o : Option (List ℕ)) (name bytes : List ℕ) (home : Space) (found : Option Space) → Some name ≡ o → bytes ≡ name → found ≡ space_named bytes spaces → unwrap_or found home ≡ conflicting_space spaces o home
looked_up spaces o name bytes home found some same is =
    ap (λ (r : Option Space). unwrap_or r home) (is ∙ ap (λ (b : List ℕ). space_named b spaces) same) ∙ ap (λ (n : Option (List ℕ)). conflicting_space spaces n home) some

-- its record is found by its number
pub conflicting_there : (p : Parts) (o : Option (List ℕ)) (home : Space) → keep_rules p ≡ true → space_of p.spaces home.number ≡ Some home
    → let a : Space = conflicting_space p.spaces o home in space_of p.spaces a.number ≡ Some a
conflicting_there p None home rules there = there
conflicting_there p (Some name) home rules there = by_record (space_named name p.spaces) refl
  where
    by_record : (o : Option Space) → space_named name p.spaces ≡ o → let a : Space = unwrap_or o home in space_of p.spaces a.number ≡ Some a
    by_record None none = there
    by_record (Some r) found = find-again (λ (q t : Space). q.number == t.number) (λ q. eq-eqb q.number q.number refl) (λ (q : Space). bytes_eq name q.name) p.spaces r (ruled_spaces p rules).numbers found

-- the parent of a workspace other than LIVE has a record
parent_recorded : (p : Parts) (a : Space) → keep_rules p ≡ true → 0 < a.number → space_of p.spaces a.number ≡ Some a → is_some (space_of p.spaces a.parent) ≡ true
parent_recorded p a rules child found = by_live (a.number == 0) (nonzero a.number child) placed
  where
    placed : is_placed (space_of p.spaces) a ≡ true
    placed =
        let w = found-passes (λ (x : Space). x.number == a.number) (is_space (space_of p.spaces)) p.spaces a found (ruled_spaces p rules).each in
        (and_parts (is_placed (space_of p.spaces) a) (is_short a.name && is_short a.writer) (and_parts (is_placed (space_of p.spaces) a && (is_short a.name && is_short a.writer)) _ w.1).0).0

    by_live : (b : Bool) → b ≡ false → (if b then bytes_eq a.name live else nat_lt a.parent a.number && is_some (space_of p.spaces a.parent)) ≡ true → is_some (space_of p.spaces a.parent) ≡ true
    by_live true is_live is = absurd (true≢false is_live)
    by_live false is_live is = (and_parts (nat_lt a.parent a.number) (is_some (space_of p.spaces a.parent)) is).1

pub parent_found : (p : Parts) (a : Space) (r : Option (Bor Space)) → keep_rules p ≡ true → 0 < a.number → space_of p.spaces a.number ≡ Some a → option_copied r ≡ space_of p.spaces a.parent → is_some r ≡ true
parent_found p a r rules child there found = copied_some r (space_of p.spaces a.parent) found (parent_recorded p a rules child there)

-- the two are a family
pub are_family : (p : Parts) (m : ℕ) (session : Session) (look : Look) (x : Space × Space) → keep_rules p ≡ true → IsLook p m session look → look.family ≡ Some x → AreFamily p x.0 x.1
are_family p m session look x rules is some =
    let family : IsFamilyOf p (conflicting_space p.spaces session.conflict look.home) (Some x) = subst (IsFamilyOf p (conflicting_space p.spaces session.conflict look.home)) some is.family in
    let there = conflicting_there p session.conflict look.home rules (numbered p session.space look.home is.home) in
    record {
      child = subst (λ (a : Space). space_of p.spaces a.number ≡ Some a) (sym family.0) there;
      parent = ap (λ (a : Space). space_of p.spaces a.parent) family.0 ∙ family.1.1;
    }

-- the look has the moment and the session
pub own_look : (p : Parts) (l : LookNode) (m : ℕ) (session : Session) → l.moment ≡ m → l.session.now ≡ session → IsLook p m session (look_view p l) → IsLook p l.moment l.session.now (look_view p l)
own_look p l m session at whose is = subst (λ (x : Session). IsLook p l.moment x (look_view p l)) (sym whose) (subst (λ (n : ℕ). IsLook p n session (look_view p l)) (sym at) is)

-- ---- what a query is refused for

-- over the columns of its sources
pub fault_is : (rs : List Stored) (query : Query) (columns : List Column) (fault : Option Refusal) → columns ≡ columns_in (tables_in rs) query.sources → query_fault columns query ≡ fault
    → query_fault (columns_in (tables_in rs) query.sources) query ≡ fault
fault_is rs query columns fault are bad = ap (λ cs. query_fault cs query) (sym are) ∙ bad
