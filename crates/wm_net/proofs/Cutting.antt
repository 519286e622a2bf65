-- What is cut more counts no less, and what ends where entries end changes at cuts alone.
use Rattle.std.proofs.Common.{◌≡◌, ℕ, ◌≤◌, ◌⊎◌, inl, inr, List, [], ◌∷◌, ◌++◌, map, length, Option, is_some, Bool, true, false, cond, ◌&&◌, ◌||◌, ◌==◌, nat_le, nat_lt, refl, sym, ap, ◌∙◌, arith, eqb-true, eq-eqb, ⊎_elim, subst}
use Rattle.std.proofs.lemmas.Bool.{and_parts, or_left, or_right}
use Rattle.std.proofs.lemmas.List.Folds.{list_any-append}
use Rattle.std.proofs.lemmas.List.Sums.{length-filter}
use Rattle.std.proofs.Math.Bool.{or_assoc}
use Rattle.std.specs.Bool.{then_some}
use Rattle.std.specs.List.{count_by}
use Rattle.wm_base.specs.declared.value.Value.{Value}
use Rattle.wm_spec.proofs.Stretches.{Up, Off, Steady, by_test, Off-below, Up-cuts, Steady-period}
use Rattle.wm_spec.specs.Lists.{Entry, Cell, told, touched, is_of}
use Rattle.wm_spec.specs.Stretches.{cut_in, cuts}
use Rattle.wm_spec.specs.declared.record.cell_range.CellRange.{CellRange}
use Rattle.wm_net.specs.Counts.{never, first_cell, cut_count, SteadyTest, IsSteady, is_end, has_ends, has_cuts, has_cell}
use Rattle.wm_net.specs.Groups.{Group, group_of, cell, same_group, groups, has_group, GroupsAscend}
use Rattle.wm_net.specs.Listed.{Stretch, within, stretches, stretches_of}
use Rattle.wm_net.proofs.Counting.{count-cons, count-append, weight, firsts, all_firsts, first_cells-listed}
use Rattle.wm_net.proofs.Grouping.{same_group-is, same_group-itself, groups-ascend, has-group_in, cuts_none}
use Rattle.wm_net.proofs.Listing.{SameGroups, listed_same}
use Rattle.wm_net.proofs.Stretching.{Cut, Cut-cuts, Steady-told}

-- ---- more cuts of a group

-- each of some cuts is not between two neighbours of others
abbrev AllOff : List ℕ → ℕ → List ℕ → Type 0
AllOff [] low ds = Unit {0}
AllOff (c ∷ cs) low ds = Off c low ds × AllOff cs low ds

AllOff-tail : (cs : List ℕ) (low d : ℕ) (ds : List ℕ) → AllOff cs low (d ∷ ds) → AllOff cs d ds
AllOff-tail [] low d ds off = tt
AllOff-tail (c ∷ cs) low d ds off = (off.0.1, AllOff-tail cs low d ds off.1)

AllOff-in : (n low : ℕ) (cs ds : List ℕ) → Off n 0 ds → AllOff cs 0 ds → AllOff (cut_in n low cs) 0 ds
AllOff-in n low [] ds off all = by_test (nat_le n low) (λ e. rw e tt) (λ e. rw e (off, tt))
AllOff-in n low (c ∷ cs) ds off all =
    by_test (nat_le n low) (λ e. rw e all) (λ e.
    by_test (nat_lt n c) (λ h. rw (e, h) (off, all)) (λ h. rw (e, h) (all.0, AllOff-in n c cs ds off all.1)))

AllOff-cuts : (g : Group) (es : List Entry) (ds : List ℕ) → Cut g es ds → AllOff (cuts es g.table g.key) 0 ds
AllOff-cuts g [] ds cut = tt
AllOff-cuts g (e ∷ es) ds cut =
    by_test (is_of g.table g.key e)
    (λ h. rw h (
    let rest : AllOff (cuts es g.table g.key) 0 ds = AllOff-cuts g es ds cut.1 in
    AllOff-in e.from 0 (cut_in e.till 0 (cuts es g.table g.key)) ds (cut.0 h).0 (AllOff-in e.till 0 (cuts es g.table g.key) ds (cut.0 h).1 rest)))
    (λ h. rw h (AllOff-cuts g es ds cut.1))

-- how many first cells of a group pass the test
abbrev counted : (Cell → Bool) → Group → ℕ → List ℕ → ℕ
counted f g low cs = count_by f (map (cell g) (firsts low cs))

-- more cuts have more first cells
more_cuts : (f : Cell → Bool) (g : Group) (low high : ℕ) (cs ds : List ℕ) → low ≤ high → Up high cs → Off high low ds → AllOff cs low ds
    → counted f g high cs ≤ counted f g low ds
more_cuts f g low high [] ds le up off all = omega arith
more_cuts f g low high (a ∷ cs) [] le up off all = absurd (omega (arith, le, up.0, all.0))
more_cuts f g low high (a ∷ cs) (d ∷ ds) le up off all =
    let more = count-cons f (cell g low) (map (cell g) (firsts d ds)) in
    ⊎_elim
    (λ same. ⊎_elim
    (λ before. absurd (omega (arith, le, up.0, before)))
    (λ past.
    let one : high ≡ low = omega (arith, le, same) in
    let fewer = count-cons f (cell g high) (map (cell g) (firsts a cs)) in
    let rest = more_cuts f g d a cs ds past up.1 all.0.1 (AllOff-tail cs low d ds all.1) in
    let first : cond (f (cell g high)) 1 0 ≡ cond (f (cell g low)) 1 0 = ap (λ (n : ℕ). weight (f (cell g n))) one in
    omega (arith, fewer, more, rest, first))
    all.0.0)
    (λ past.
    let rest = more_cuts f g d high (a ∷ cs) ds past up off.1 (AllOff-tail (a ∷ cs) low d ds all) in
    omega (arith, more, rest))
    off.0

-- ---- more cuts of all groups

has-group_append : (g : Group) (xs ys : List Entry) → has_group g (groups (xs ++ ys)) ≡ (has_group g (groups xs) || has_group g (groups ys))
has-group_append g [] ys = refl
has-group_append g (x ∷ xs) ys =
    rw (has-group_in g (group_of x) (groups (xs ++ ys)), has-group_in g (group_of x) (groups xs), has-group_append g xs ys)
    (sym (or_assoc (same_group (group_of x) g) (has_group g (groups xs)) (has_group g (groups ys))))

-- groups that no entry is of add nothing
counted_over : (es : List Entry) (f : Cell → Bool) (gs : List Group) → GroupsAscend gs → ((g : Group) → has_group g (groups es) ≡ true → has_group g gs ≡ true)
    → cut_count es f ≡ count_by f (all_firsts es gs)
counted_over es f gs up all =
    ap length (listed_same first_cell F (groups es) gs (groups-ascend es) up same ∙ first_cells-listed es f gs) ∙ length-filter f (all_firsts es gs)
  where
    F : Group → List (Stretch Bool)
    F = stretches_of never es (λ c. then_some (f c) true)

    same : SameGroups F (groups es) gs
    same g = by_test (has_group g (groups es)) refl
      where
        by_test : (b : Bool) → has_group g (groups es) ≡ b → (F g ≡ []) ⊎ (has_group g (groups es) ≡ has_group g gs)
        by_test true e = inr (e ∙ sym (all g e))
        by_test false e = inl (ap (λ (cs : List ℕ). stretches never (λ t. then_some (f (cell g t)) true) 0 cs) (cuts_none es g e))

more_firsts : (es fs : List Entry) (f : Cell → Bool) (gs : List Group) → ((g : Group) → Cut g es (cuts fs g.table g.key))
    → count_by f (all_firsts es gs) ≤ count_by f (all_firsts fs gs)
more_firsts es fs f [] cut = omega arith
more_firsts es fs f (g ∷ gs) cut =
    let cs = cuts es g.table g.key in
    let ds = cuts fs g.table g.key in
    let fewer = count-append f (map (cell g) (firsts 0 cs)) (all_firsts es gs) in
    let more = count-append f (map (cell g) (firsts 0 ds)) (all_firsts fs gs) in
    let one = more_cuts f g 0 0 cs ds (omega arith) (Up-cuts es g.table g.key) (Off-below 0 0 ds (omega arith) (Up-cuts fs g.table g.key)) (AllOff-cuts g es ds (cut g)) in
    let rest = more_firsts es fs f gs cut in
    omega (arith, fewer, more, one, rest)

-- where all that is cut by some entries is cut by others, these count no less
count_cut : (es fs : List Entry) (f : Cell → Bool) → ((g : Group) → Cut g es (cuts fs g.table g.key)) → cut_count es f ≤ cut_count fs f
count_cut es fs f cut =
    let gs = groups (es ++ fs) in
    let up = groups-ascend (es ++ fs) in
    rw (
      counted_over es f gs up (λ g e. has-group_append g es fs ∙ or_left (has_group g (groups es)) (has_group g (groups fs)) e),
      counted_over fs f gs up (λ g e. has-group_append g es fs ∙ or_right (has_group g (groups es)) (has_group g (groups fs)) e),
    )
    (more_firsts es fs f gs cut)

-- ---- ends of entries

-- an end of an entry is not between two cuts
Off-end : (g : Group) (es : List Entry) (n : ℕ) (cs : List ℕ) → Cut g es cs → is_end es g.table g.key n ≡ true → Off n 0 cs
Off-end g [] n cs cut e = absurd (cc)
Off-end g (x ∷ es) n cs cut e = by_end (is_of g.table g.key x) (x.from == n) (x.till == n) refl refl refl e (Off-end g es n cs cut.1)
  where
    by_end : (a b c : Bool) → is_of g.table g.key x ≡ a → (x.from == n) ≡ b → (x.till == n) ≡ c → ((a && (b || c)) || is_end es g.table g.key n) ≡ true
        → (is_end es g.table g.key n ≡ true → Off n 0 cs) → Off n 0 cs
    by_end true true c h i j k rest = subst (λ (m : ℕ). Off m 0 cs) (eqb-true x.from n i) (cut.0 h).0
    by_end true false true h i j k rest = subst (λ (m : ℕ). Off m 0 cs) (eqb-true x.till n j) (cut.0 h).1
    by_end true false false h i j k rest = rest k
    by_end false b c h i j k rest = rest k

-- so where ends of entries are ends of others, they are cuts of these
pub Cut-has : (g : Group) (fs es : List Entry) → has_cuts fs es ≡ true → Cut g es (cuts fs g.table g.key)
Cut-has g fs [] h = tt
Cut-has g fs (e ∷ es) h =
    let two = and_parts (is_end fs e.table e.key e.from && is_end fs e.table e.key e.till) (has_cuts fs es) h in
    let ends = and_parts (is_end fs e.table e.key e.from) (is_end fs e.table e.key e.till) two.0 in
    let off : (n : ℕ) → is_of g.table g.key e ≡ true → is_end fs e.table e.key n ≡ true → Off n 0 (cuts fs g.table g.key) =
    λ n same end. Off-end g fs n (cuts fs g.table g.key) (Cut-cuts g fs) (ap (λ (k : Group). is_end fs k.table k.key n) (sym (same_group-is (group_of e) g same)) ∙ end) in
    ((λ same. (off e.from same ends.0, off e.till same ends.1)), Cut-has g fs es two.1)

-- where the ends of some entries are ends of others, these count no less
pub count_cuts : (es fs : List Entry) (f : Cell → Bool) → has_cuts fs es ≡ true → cut_count es f ≤ cut_count fs f
count_cuts es fs f h = count_cut es fs f (λ g. Cut-has g fs es h)

is_end-behind : (fs hs : List Entry) (table : ℕ) (key : List Value) (n : ℕ) → is_end fs table key n ≡ true → is_end (fs ++ hs) table key n ≡ true
is_end-behind fs hs table key n e =
    list_any-append (λ (x : Entry). is_of table key x && ((x.from == n) || (x.till == n))) fs hs ∙ or_left (is_end fs table key n) (is_end hs table key n) e

is_end-before : (gs fs : List Entry) (table : ℕ) (key : List Value) (n : ℕ) → is_end fs table key n ≡ true → is_end (gs ++ fs) table key n ≡ true
is_end-before gs fs table key n e =
    list_any-append (λ (x : Entry). is_of table key x && ((x.from == n) || (x.till == n))) gs fs ∙ or_right (is_end gs table key n) (is_end fs table key n) e

-- ends stay ends among more entries
has_cuts-by : (fs more es : List Entry) → ((table : ℕ) (key : List Value) (n : ℕ) → is_end fs table key n ≡ true → is_end more table key n ≡ true)
    → has_cuts fs es ≡ true → has_cuts more es ≡ true
has_cuts-by fs more [] keep h = refl
has_cuts-by fs more (e ∷ es) keep h =
    let two = and_parts (is_end fs e.table e.key e.from && is_end fs e.table e.key e.till) (has_cuts fs es) h in
    let ends = and_parts (is_end fs e.table e.key e.from) (is_end fs e.table e.key e.till) two.0 in
    let from : is_end more e.table e.key e.from ≡ true = keep e.table e.key e.from ends.0 in
    let till : is_end more e.table e.key e.till ≡ true = keep e.table e.key e.till ends.1 in
    rw (from, till) (has_cuts-by fs more es keep two.1)

pub has_cuts-behind : (fs hs es : List Entry) → has_cuts fs es ≡ true → has_cuts (fs ++ hs) es ≡ true
has_cuts-behind fs hs es h = has_cuts-by fs (fs ++ hs) es (is_end-behind fs hs) h

pub has_cuts-before : (gs fs es : List Entry) → has_cuts fs es ≡ true → has_cuts (gs ++ fs) es ≡ true
has_cuts-before gs fs es h = has_cuts-by fs (gs ++ fs) es (is_end-before gs fs) h

-- entries end where they end
pub has_cuts-itself : (es : List Entry) → has_cuts es es ≡ true
has_cuts-itself [] = refl
has_cuts-itself (e ∷ es) =
    let own : is_of e.table e.key e ≡ true = same_group-itself (group_of e) in
    rw (own, eq-eqb e.from e.from refl, eq-eqb e.till e.till refl) (by_test (e.from == e.till) (has_cuts-before (e ∷ []) es es (has_cuts-itself es)))
  where
    by_test : (a : Bool) → has_cuts (e ∷ es) es ≡ true → (((a || true) || is_end es e.table e.key e.till) && has_cuts (e ∷ es) es) ≡ true
    by_test true h = h
    by_test false h = h

-- and among those of two lists, of which theirs is one
pub has_cuts-first : (xs ys : List Entry) → has_cuts (xs ++ ys) xs ≡ true
has_cuts-first xs ys = has_cuts-behind xs ys xs (has_cuts-itself xs)

pub has_cuts-second : (xs ys : List Entry) → has_cuts (xs ++ ys) ys ≡ true
has_cuts-second xs ys = has_cuts-before xs ys ys (has_cuts-itself ys)

-- two lists end where entries do if each does
pub has_cuts-append : (fs xs ys : List Entry) → has_cuts fs xs ≡ true → has_cuts fs ys ≡ true → has_cuts fs (xs ++ ys) ≡ true
has_cuts-append fs [] ys one two = two
has_cuts-append fs (x ∷ xs) ys one two =
    let both = and_parts (is_end fs x.table x.key x.from && is_end fs x.table x.key x.till) (has_cuts fs xs) one in
    rw both.0 (has_cuts-append fs xs ys both.1 two)

-- ---- tests that are steady

SteadyTest-some : {A : Type 0} (f : ℕ → Option A) (low : ℕ) (cs : List ℕ) → Steady f low cs → SteadyTest (λ t. is_some (f t)) low cs
SteadyTest-some f low [] s = λ t le. rw (s t le) refl
SteadyTest-some f low (a ∷ cs) s = ((λ t le lt. rw (s.0 t le lt) refl), SteadyTest-some f a cs s.1)

SteadyTest-alike : (p q : ℕ → Bool) (low : ℕ) (cs : List ℕ) → ((t : ℕ) → p t ≡ q t) → SteadyTest p low cs → SteadyTest q low cs
SteadyTest-alike p q low [] same s = λ t le. sym (same t) ∙ s t le
SteadyTest-alike p q low (a ∷ cs) same s = ((λ t le lt. sym (same t) ∙ s.0 t le lt ∙ same low), SteadyTest-alike p q a cs same s.1)

SteadyTest-two : (op : Bool → Bool → Bool) (p q : ℕ → Bool) (low : ℕ) (cs : List ℕ) → op false false ≡ false → SteadyTest p low cs → SteadyTest q low cs
    → SteadyTest (λ t. op (p t) (q t)) low cs
SteadyTest-two op p q low [] n s r = λ t le. rw (s t le, r t le) n
SteadyTest-two op p q low (a ∷ cs) n s r = ((λ t le lt. rw (s.0 t le lt, r.0 t le lt) refl), SteadyTest-two op p q a cs n s.1 r.1)

SteadyTest-false : (low : ℕ) (cs : List ℕ) → SteadyTest (λ t. false) low cs
SteadyTest-false low [] = λ t le. refl
SteadyTest-false low (a ∷ cs) = ((λ t le lt. refl), SteadyTest-false a cs)

-- any function of two tests that are, where it fails if both do
pub IsSteady-two : (op : Bool → Bool → Bool) (es : List Entry) (f h : Cell → Bool) → op false false ≡ false → IsSteady es f → IsSteady es h
    → IsSteady es (λ c. op (f c) (h c))
IsSteady-two op es f h n s r = record {
  steady = λ g. SteadyTest-two op (λ t. f (cell g t)) (λ t. h (cell g t)) 0 (cuts es g.table g.key) n (s.steady g) (r.steady g);
}

-- what entries touch is steady where all their ends are cut
pub IsSteady-touched : (es own : List Entry) → has_cuts es own ≡ true → IsSteady es (touched own)
IsSteady-touched es own h = record {
  steady = λ g. SteadyTest-some (λ t. told own (cell g t)) 0 (cuts es g.table g.key)
      (Steady-told g own (cuts es g.table g.key) (Up-cuts es g.table g.key) (Cut-has g es own h));
}

some_then : (b : Bool) → is_some (then_some b true) ≡ b
some_then true = refl
some_then false = refl

-- and so are cells that end where entries do
pub IsSteady-cells : (es : List Entry) (r : CellRange) → has_ends es r ≡ true → IsSteady es (has_cell r)
IsSteady-cells es r h = record { steady = λ g. by_group g (same_group (its r) g) refl }
  where
    its : CellRange → Group
    its x = record { table = x.table; key = x.key }

    by_group : (g : Group) (b : Bool) → same_group (its r) g ≡ b → SteadyTest (λ t. same_group (its r) g && within r.from r.till t) 0 (cuts es g.table g.key)
    by_group g false e = rw e (SteadyTest-false 0 (cuts es g.table g.key))
    by_group g true e = rw e (
        let cs = cuts es g.table g.key in
        let ends = and_parts (is_end es r.table r.key r.from) (is_end es r.table r.key r.till) h in
        let off : (n : ℕ) → is_end es r.table r.key n ≡ true → Off n 0 cs =
        λ n end. Off-end g es n cs (Cut-cuts g es) (ap (λ (k : Group). is_end es k.table k.key n) (sym (same_group-is (its r) g e)) ∙ end) in
        SteadyTest-alike (λ t. is_some (then_some (within r.from r.till t) true)) (λ t. true && within r.from r.till t) 0 cs (λ t. some_then (within r.from r.till t))
        (SteadyTest-some (λ t. then_some (within r.from r.till t) true) 0 cs
        (Steady-period true r.from r.till 0 cs (Up-cuts es g.table g.key) (off r.from ends.0) (off r.till ends.1))))
