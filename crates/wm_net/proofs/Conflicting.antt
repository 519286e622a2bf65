-- Conflicts are the maximal periods of one key in conflict on which each side holds one stamp, and the first of them is found alone.
use Rattle.std.proofs.Common.{◌≡◌, ℕ, ◌+◌, ◌-◌, zero, suc, ◌<◌, ◌≤◌, max, List, [], ◌∷◌, ◌++◌, map, drop, slice_get, Option, None, Some, is_some, option_map, Bool, true, false, ◌&&◌, ◌||◌, if◌then◌else◌, nat_le, nat_lt, refl, sym, ap, arith, eqb-true, eq-eqb}
use Rattle.std.proofs.lemmas.Bool.{and_parts}
use Rattle.std.proofs.lemmas.Bool.Decides.{nat_tests}
use Rattle.std.specs.Bool.{then_some}
use Rattle.std.specs.Option.{option_or}
use Rattle.std.specs.declared.cmp.Ordering.TheVariants.{Less}
use Rattle.wm_base.proofs.Plain.{option_or-none}
use Rattle.wm_spec.proofs.Lists.{told-append}
use Rattle.wm_spec.proofs.Stretches.{Up, Steady, by_test, Steady-alike, Steady-or, Steady-period, Up-cuts}
use Rattle.wm_spec.specs.Lists.{Entry, Cell, Told, covers, told, touched, reach, is_of, has_time}
use Rattle.wm_spec.specs.Stretches.{cuts}
use Rattle.wm_net.specs.Conflicts.{Stamps, Sides, same_stamp, same_stamps, Settled, as_entry, marks, settled_at, in_conflict, stamps, conflict_at, all_sides, grouped, conflicts}
use Rattle.wm_net.specs.Groups.{Group, cell, group_order}
use Rattle.wm_net.specs.Listed.{Stretch, value_at, stretches_of, IsListing}
use Rattle.wm_net.specs.Places.{last_position}
use Rattle.wm_net.proofs.Firsting.{listing_first, listing_none}
use Rattle.wm_net.proofs.Listing.{Fit, changes_of, value_of, is_listing, listing_is}
use Rattle.wm_net.proofs.Placing.{touched-drop, past_position, reach-last}
use Rattle.wm_net.proofs.Stretching.{Steady-none, Steady-two, Cut, Cut-cuts, Cut-left, Cut-right, Steady-told}

-- ---- what a conflict is told by changes at cuts alone

Steady-map : {A B : Type 0} (act : A → B) (f : ℕ → Option A) (low : ℕ) (cs : List ℕ) → Steady f low cs → Steady (λ t. option_map act (f t)) low cs
Steady-map act f low [] s = λ t l. rw (s t l) refl
Steady-map act f low (a ∷ cs) s = ((λ t l k. rw (s.0 t l k) refl), Steady-map act f a cs s.1)

-- last positions change at cuts alone
pub Steady-last : (g : Group) (es : List Entry) (cs : List ℕ) → Up 0 cs → Cut g es cs → Steady (λ t. last_position es (cell g t)) 0 cs
Steady-last g [] cs u k = Steady-none None 0 cs refl
Steady-last g (e ∷ es) cs u k =
    let later : Steady (λ t. option_map (λ (n : ℕ). n + 1) (last_position es (cell g t))) 0 cs =
    Steady-map (λ (n : ℕ). n + 1) (λ t. last_position es (cell g t)) 0 cs (Steady-last g es cs u k.1) in
    by_test (is_of g.table g.key e)
    (λ h. rw h (Steady-or (λ t. option_map (λ (n : ℕ). n + 1) (last_position es (cell g t))) (λ t. then_some (true && has_time t e) (let z : ℕ = 0 in z)) 0 cs
    later (Steady-period (let z : ℕ = 0 in z) e.from e.till 0 cs u (k.0 h).0 (k.0 h).1)))
    (λ h. rw h (Steady-alike (λ t. option_map (λ (n : ℕ). n + 1) (last_position es (cell g t))) (λ t. option_or (option_map (λ (n : ℕ). n + 1) (last_position es (cell g t))) None) 0 cs
    (λ t. sym (option_or-none (option_map (λ (n : ℕ). n + 1) (last_position es (cell g t))))) later))

Steady-five : {A B C D E F : Type 0} (op : Option A → Option B → Option C → Option D → Option E → Option F) (f : ℕ → Option A) (h : ℕ → Option B) (k : ℕ → Option C) (m : ℕ → Option D) (n : ℕ → Option E)
    (low : ℕ) (cs : List ℕ) → op None None None None None ≡ None → Steady f low cs → Steady h low cs → Steady k low cs → Steady m low cs → Steady n low cs
    → Steady (λ t. op (f t) (h t) (k t) (m t) (n t)) low cs
Steady-five op f h k m n low [] none a b c d e = λ t l. rw (a t l, b t l, c t l, d t l, e t l) none
Steady-five op f h k m n low (x ∷ cs) none a b c d e = (
  (λ t l lt. rw (a.0 t l lt, b.0 t l lt, c.0 t l lt, d.0 t l lt, e.0 t l lt) refl),
  Steady-five op f h k m n x cs none a.1 b.1 c.1 d.1 e.1,
)

-- the greater of two numbers, where there are two
abbrev greater : Option ℕ → Option ℕ → Option ℕ
greater None None = None
greater (Some a) None = Some a
greater None (Some b) = Some b
greater (Some a) (Some b) = Some (max a b)

-- the greatest position of the marks that cover a cell
abbrev last_mark : List Settled → Cell → Option ℕ
last_mark [] c = None
last_mark (m ∷ ms) c = greater (then_some (covers (as_entry m) c) m.position) (last_mark ms c)

settled-last : (ms : List Settled) (c : Cell) → settled_at ms c ≡ past_position (last_mark ms c)
settled-last [] c = refl
settled-last (m ∷ ms) c = rw (settled-last ms c) (by_last (covers (as_entry m) c) (last_mark ms c))
  where
    by_last : (b : Bool) (o : Option ℕ) → max (if b then m.position + 1 else 0) (past_position o) ≡ past_position (greater (then_some b m.position) o)
    by_last true (Some p) = omega arith
    by_last true None = omega arith
    by_last false (Some p) = omega arith
    by_last false None = refl

-- it changes at ends of marks alone
Steady-mark : (g : Group) (ms : List Settled) (cs : List ℕ) → Up 0 cs → Cut g (map as_entry ms) cs → Steady (λ t. last_mark ms (cell g t)) 0 cs
Steady-mark g [] cs u k = Steady-none None 0 cs refl
Steady-mark g (m ∷ ms) cs u k =
    Steady-two greater (λ t. then_some (covers (as_entry m) (cell g t)) m.position) (λ t. last_mark ms (cell g t)) 0 cs refl
    (by_test (is_of g.table g.key (as_entry m))
    (λ h. rw h (Steady-period m.position m.from m.till 0 cs u (k.0 h).0 (k.0 h).1))
    (λ h. rw h (Steady-none None 0 cs refl)))
    (Steady-mark g ms cs u k.1)

-- a conflict by what own, marks, log, base and parent say of its cell
abbrev from_views : ℕ → Option Told → Option ℕ → Option ℕ → Option Told → Option Told → Option Stamps
from_views from own mark last base parent =
    then_some (is_some own && (nat_lt from (past_position last) && nat_le (past_position mark) (past_position last))) (stamps base parent (option_or own base))

views_are : (s : Sides) (c : Cell) → from_views s.from (told s.own c) (last_mark s.settled c) (last_position s.log c) (told s.base c) (told s.parent c) ≡ conflict_at s c
views_are s c = sym (rw (reach-last s.log c, settled-last s.settled c, told-append s.base s.own c) refl)

pub Steady-conflict : (s : Sides) (g : Group) → Steady (λ t. conflict_at s (cell g t)) 0 (cuts (all_sides s) g.table g.key)
Steady-conflict s g =
    let cs : List ℕ = cuts (all_sides s) g.table g.key in
    let up : Up 0 cs = Up-cuts (all_sides s) g.table g.key in
    let all : Cut g (all_sides s) cs = Cut-cuts g (all_sides s) in
    let past_base : Cut g (s.parent ++ (s.own ++ (s.log ++ marks s))) cs = Cut-right g s.base (s.parent ++ (s.own ++ (s.log ++ marks s))) cs all in
    let past_parent : Cut g (s.own ++ (s.log ++ marks s)) cs = Cut-right g s.parent (s.own ++ (s.log ++ marks s)) cs past_base in
    let past_own : Cut g (s.log ++ marks s) cs = Cut-right g s.own (s.log ++ marks s) cs past_parent in
    Steady-alike (λ t. from_views s.from (told s.own (cell g t)) (last_mark s.settled (cell g t)) (last_position s.log (cell g t)) (told s.base (cell g t)) (told s.parent (cell g t)))
    (λ t. conflict_at s (cell g t)) 0 cs (λ t. views_are s (cell g t))
    (Steady-five (from_views s.from) (λ t. told s.own (cell g t)) (λ t. last_mark s.settled (cell g t)) (λ t. last_position s.log (cell g t)) (λ t. told s.base (cell g t)) (λ t. told s.parent (cell g t)) 0 cs refl
    (Steady-told g s.own cs up (Cut-left g s.own (s.log ++ marks s) cs past_parent)) (Steady-mark g s.settled cs up (Cut-right g s.log (marks s) cs past_own))
    (Steady-last g s.log cs up (Cut-left g s.log (marks s) cs past_own)) (Steady-told g s.base cs up (Cut-left g s.base (s.parent ++ (s.own ++ (s.log ++ marks s))) cs all))
    (Steady-told g s.parent cs up (Cut-left g s.parent (s.own ++ (s.log ++ marks s)) cs past_base)))

-- ---- the test of three stamps

same_stamp-is : (a b : Option ℕ) → same_stamp a b ≡ true → a ≡ b
same_stamp-is None None e = refl
same_stamp-is (Some a) (Some b) e = ap (λ n. Some n) (eqb-true a b e)
same_stamp-is None (Some b) e = absurd (cc)
same_stamp-is (Some a) None e = absurd (cc)

same_stamp-itself : (a : Option ℕ) → same_stamp a a ≡ true
same_stamp-itself None = refl
same_stamp-itself (Some a) = eq-eqb a a refl

pub same_stamps-is : (x y : Stamps) → same_stamps x y ≡ true → x ≡ y
same_stamps-is x y e =
    let first = and_parts (same_stamp x.base y.base) (same_stamp x.parent y.parent && same_stamp x.child y.child) e in
    let rest = and_parts (same_stamp x.parent y.parent) (same_stamp x.child y.child) first.1 in
    let base = same_stamp-is x.base y.base first.0 in
    let parent = same_stamp-is x.parent y.parent rest.0 in
    let child = same_stamp-is x.child y.child rest.1 in
    λ i. record { base = base i; parent = parent i; child = child i }

pub same_stamps-itself : (x : Stamps) → same_stamps x x ≡ true
same_stamps-itself x = rw (same_stamp-itself x.base, same_stamp-itself x.parent, same_stamp-itself x.child) refl

-- ---- all conflicts

pub Fit-conflicts : (s : Sides) → Fit same_stamps (all_sides s) (conflict_at s)
Fit-conflicts s = record { steady = Steady-conflict s; right = λ g. record { right = λ t u x y e h k. same_stamps-is x y k } }

-- the stretches of conflict hold at each moment of each key what the cell's conflict is
pub value_conflicts : (s : Sides) (g : Group) (t : ℕ) → value_at (stretches_of same_stamps (all_sides s) (conflict_at s) g) t ≡ conflict_at s (cell g t)
value_conflicts s g t = value_of same_stamps (all_sides s) (conflict_at s) (Fit-conflicts s) g t

-- they go group by group, ascending, and are as long as they can be
pub conflicts_are : (s : Sides) → IsListing same_stamps grouped (conflict_at s) (conflicts s)
conflicts_are s = listing_is same_stamps grouped (all_sides s) (conflict_at s) (Fit-conflicts s)

-- and are the only such list: what code that goes key by key owes
pub conflicts_is : (s : Sides) (xs : List (Group × Stretch Stamps)) → IsListing same_stamps grouped (conflict_at s) xs → xs ≡ conflicts s
conflicts_is s xs l = is_listing same_stamps grouped (all_sides s) (conflict_at s) xs same_stamps-itself (changes_of same_stamps (all_sides s) (conflict_at s) (Fit-conflicts s)) l

-- a conflict asks for no position of an entry: own touches the cell, and the log does from the position on, and from each mark on
pub in_conflict-is : (s : Sides) (c : Cell) → in_conflict s c ≡ (touched s.own c && (touched (drop s.from s.log) c && (touched (drop (settled_at s.settled c - 1) s.log) c || nat_le (settled_at s.settled c) 0)))
in_conflict-is s c = rw (touched-drop s.from s.log c, touched-drop (settled_at s.settled c - 1) s.log c) (ap (λ (b : Bool). touched s.own c && (nat_lt s.from (reach s.log c) && b)) (by_mark (settled_at s.settled c) (reach s.log c)))
  where
    by_mark : (mark last : ℕ) → nat_le mark last ≡ (nat_lt (mark - 1) last || nat_le mark 0)
    by_mark zero last = grind (arith, nat_tests)
    by_mark (suc mark) last = grind (arith, nat_tests)

-- ---- the first conflict

-- the stamps at a cell, in conflict or not
abbrev pub stamps_at : Sides → Cell → Stamps
stamps_at s c = stamps (told s.base c) (told s.parent c) (told (s.base ++ s.own) c)

not_given : (b : Bool) (x : Stamps) → b ≡ false → then_some b x ≡ None
not_given b x e = rw e refl

given : (b : Bool) (x y : Stamps) → b ≡ true → x ≡ y → then_some b x ≡ Some y
given b x y e f = rw (e, f) refl

given_parts : (b : Bool) (x y : Stamps) → then_some b x ≡ Some y → (b ≡ true) × (x ≡ y)
given_parts true x y e = let one : x ≡ y = cc in (refl, one)
given_parts false x y e = absurd (cc)

-- what code owes that looks for the first conflict: no cell of a group before, nor of this group before an instant, is in conflict; from it on up to another
-- all are and the three stamps stay; and there it ends, or a stamp changes
pub first_conflict_is : (s : Sides) (g : Group) (from till : ℕ)
    → ((h : Group) → group_order h g ≡ Less → (t : ℕ) → in_conflict s (cell h t) ≡ false) → ((t : ℕ) → t < from → in_conflict s (cell g t) ≡ false) → from < till
    → ((t : ℕ) → from ≤ t → t < till → (in_conflict s (cell g t) ≡ true) × (stamps_at s (cell g t) ≡ stamps_at s (cell g from)))
    → (in_conflict s (cell g till) ≡ true → stamps_at s (cell g till) ≡ stamps_at s (cell g from) → ⊥)
    → slice_get (conflicts s) 0 ≡ Some (g, record { from = from; till = till; value = stamps_at s (cell g from) })
first_conflict_is s g from till groups before real over ends =
    listing_first same_stamps grouped (all_sides s) (conflict_at s) g (record { from = from; till = till; value = stamps_at s (cell g from) }) same_stamps-itself (Fit-conflicts s) (record {
      before = λ h lt t. not_given (in_conflict s (cell h t)) (stamps_at s (cell h t)) (groups h lt t);
      first = record {
        begins = omega arith;
        before = λ t le lt. not_given (in_conflict s (cell g t)) (stamps_at s (cell g t)) (before t lt);
        real = real;
        over = λ t le lt. given (in_conflict s (cell g t)) (stamps_at s (cell g t)) (stamps_at s (cell g from)) (over t le lt).0 (over t le lt).1;
        ends = λ e. let two = given_parts (in_conflict s (cell g till)) (stamps_at s (cell g till)) (stamps_at s (cell g from)) e in ends two.0 two.1;
      };
    })

-- where no cell is in conflict there is none
pub no_conflict : (s : Sides) → ((c : Cell) → in_conflict s c ≡ false) → conflicts s ≡ []
no_conflict s none = listing_none same_stamps grouped (all_sides s) (conflict_at s) same_stamps-itself (Fit-conflicts s) (λ c. not_given (in_conflict s c) (stamps_at s c) (none c))
