-- What is copied of the pieces that a version shows is what its list says.
use Rattle.std.proofs.Common.{◌≡◌, ℕ, ◌<◌, ◌≤◌, Bool, true, false, if◌then◌else◌, List, Option, None, Some, option_map, refl, sym, ap, ◌∙◌, arith, eqb-true, eq-eqb, ◌⊎◌, inl, inr, subst}
use Rattle.std.proofs.lemmas.Bool.Decides.{nat_tests}
use Rattle.std.proofs.lemmas.Option.{same_Some}
use Rattle.std.specs.Bool.{then_some}
use Rattle.wm_base.specs.declared.instant.TheConstants.{END}
use Rattle.wm_graph.specs.Parts.{Parts}
use Rattle.wm_decided.specs.Deciding.{told_on}
use Rattle.wm_net.specs.Conflicts.{Stamps}
use Rattle.wm_net.specs.Groups.{Group, cell}
use Rattle.wm_net.specs.Listed.{Stretch, within}
use Rattle.wm_net.specs.Nets.{one_stamp}
use Rattle.wm_net.proofs.Netting.{stamped_told}
use Rattle.wm_net.proofs.Stretching.{Cut-cuts, Right, Steady-told, Steady-two, le_or_lt}
use Rattle.wm_net.proofs.Unique.{is_stretches}
use Rattle.wm_period.specs.Pieces.{Between, Held, held_at}
use Rattle.wm_period.proofs.Order.{held_at-past}
use Rattle.wm_period.specs.declared.piece.Piece.{Piece}
use Rattle.wm_spec.proofs.Stretches.{Off-cut, Off-own, Steady, Steady-alike, Steady-cut, Steady-period, Up, Up-cut, Up-cuts}
use Rattle.wm_spec.specs.Lists.{Entry, Told, told}
use Rattle.wm_spec.specs.Stretches.{cut_in, cuts}
use Rattle.wm_state.specs.Standing.{held_of, seen}
use Rattle.wm_telling.specs.Telling.{told_by}
use Rattle.wm_telling.proofs.Beside.{told_again}
use Rattle.wm_resolve.specs.Copying.{AreCopies, SayOne}
use Rattle.wm_resolve.specs.Telling.{TellsList}

abbrev where_within : Option ℕ → Option Told → Option Told
where_within None o = None
where_within (Some n) o = o

module _ (p : Parts) (version : ℕ) (es : List Entry) (tells : TellsList p version es) (g : Group) (s : Stretch Stamps) where
  abbrev pub said : ℕ → Option Told
  said t = if within s.from s.till t then told es (cell g t) else None

  abbrev once : List ℕ
  once = cut_in s.till 0 (cuts es g.table g.key)

  abbrev pub ends : List ℕ
  ends = cut_in s.from 0 once

  up_once : Up 0 once
  up_once = Up-cut s.till 0 (cuts es g.table g.key) (Up-cuts es g.table g.key)

  pub up : Up 0 ends
  up = Up-cut s.from 0 once up_once

  pub steady : Steady said 0 ends
  steady =
      Steady-alike (λ t. where_within (then_some (within s.from s.till t) 0) (told es (cell g t))) said 0 ends (λ t. by_test (within s.from s.till t) (told es (cell g t)))
      (Steady-two where_within (λ t. then_some (within s.from s.till t) 0) (λ t. told es (cell g t)) 0 ends refl
      (Steady-period 0 s.from s.till 0 ends up (Off-own s.from 0 once up_once) (Off-cut s.till s.from 0 once (Off-own s.till 0 (cuts es g.table g.key) (Up-cuts es g.table g.key)) up_once))
      (Steady-cut (λ t. told es (cell g t)) s.from 0 once
      (Steady-cut (λ t. told es (cell g t)) s.till 0 (cuts es g.table g.key) (Steady-told g es (cuts es g.table g.key) (Up-cuts es g.table g.key) (Cut-cuts g es)))))
    where
      by_test : (b : Bool) (o : Option Told) → where_within (then_some b 0) o ≡ (if b then o else None)
      by_test true o = refl
      by_test false o = refl

  -- what is said there is told by its stamp
  said_stamped : (t : ℕ) (x : Told) → said t ≡ Some x → x ≡ tells.tells x.stamp
  said_stamped t x is = by_test (within s.from s.till t) is
    where
      by_test : (b : Bool) → (if b then told es (cell g t) else None) ≡ Some x → x ≡ tells.tells x.stamp
      by_test true e = stamped_told tells.tells es (cell g t) x tells.stamped e
      by_test false e = absurd (cc)

  pub right : Right one_stamp said
  right = record { right = λ t u x y is so same. said_stamped t x is ∙ ap tells.tells (eqb-true x.stamp y.stamp same) ∙ sym (said_stamped u y so) }

  module _ (ps : List Piece) (lie : Between 0 ps END) (shown : (t : ℕ) → t < END → held_at ps t ≡ seen p version (cell g t)) where
    held_stamped : (t : ℕ) (x : Held) → held_at ps t ≡ Some x → x ≡ held_of (tells.tells x.stamp.number)
    held_stamped t x is = by_place (le_or_lt END t)
      where
        of_told : (o : Option Told) → told es (cell g t) ≡ o → option_map held_of o ≡ Some x → x ≡ held_of (tells.tells x.stamp.number)
        of_told None at e = absurd (cc)
        of_told (Some y) at e =
            let same : held_of y ≡ x = same_Some (held_of y) x e in
            sym same ∙ ap held_of (stamped_told tells.tells es (cell g t) y tells.stamped at) ∙ ap (λ (h : Held). held_of (tells.tells h.stamp.number)) same

        nothing : (o : Option Held) → o ≡ None → o ≡ Some x → x ≡ held_of (tells.tells x.stamp.number)
        nothing o none some = absurd (cc)

        by_place : (END ≤ t) ⊎ (t < END) → x ≡ held_of (tells.tells x.stamp.number)
        by_place (inl past) = nothing (held_at ps t) (held_at-past 0 ps END t lie past) is
        by_place (inr before) = of_told (told es (cell g t)) refl (sym (tells.holds (cell g t)) ∙ sym (shown t before) ∙ is)

    say_one : SayOne ps
    say_one t u x y is so same = held_stamped t x is ∙ ap (λ n. held_of (tells.tells n)) same ∙ sym (held_stamped u y so)

    pub told_copies : (ss : List (Stretch Told)) → s.till ≤ END → AreCopies p s.from s.till ps ss → ss ≡ told_on es g s
    told_copies ss end are =
        is_stretches one_stamp said ends ss (λ x. eq-eqb x.stamp x.stamp refl) up steady are.ordered are.joined
        (λ t. are.holds say_one t ∙ by_within t (within s.from s.till t) refl)
      where
        before : (from till t end : ℕ) → within from till t ≡ true → till ≤ end → t < end
        before from till t end is le = grind (arith, nat_tests, is, le)

        by_within : (t : ℕ) (b : Bool) → within s.from s.till t ≡ b → (if b then option_map (told_by p) (held_at ps t) else None) ≡ (if b then told es (cell g t) else None)
        by_within t true is =
            ap (option_map (told_by p)) (shown t (before s.from s.till t END is end) ∙ tells.holds (cell g t))
            ∙ told_again p (told es (cell g t)) (λ x found row. tells.rows (cell g t) x row found)
        by_within t false is = refl

  -- so it is of pieces that are given as these
  pub told_given : (given ps : List Piece) → given ≡ ps → Between 0 ps END → ((t : ℕ) → t < END → held_at ps t ≡ seen p version (cell g t)) → (ss : List (Stretch Told)) → s.till ≤ END → AreCopies p s.from s.till given ss → ss ≡ told_on es g s
  told_given given ps is lie shown ss end are = told_copies ps lie shown ss end (subst (λ qs. AreCopies p s.from s.till qs ss) is are)
