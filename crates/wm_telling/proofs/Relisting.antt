-- The listings of what records tell are the net list and the gained list.
use Rattle.std.proofs.Common.{◌≡◌, ℕ, ◌==◌, ◌&&◌, nat_le, nat_lt, Bool, true, false, not, if◌then◌else◌, List, [], ◌∷◌, drop, Option, Some, None, refl, sym, ap, ◌∙◌, eqb-true, eq-eqb, arith}
use Rattle.std.proofs.lemmas.Bool.Decides.{nat_tests}
use Rattle.std.proofs.lemmas.List.Elements.{All-head}
use Rattle.std.proofs.lemmas.Bool.{and_from, true≢false}
use Rattle.std.proofs.lemmas.Option.{same_Some}
use Rattle.std.specs.Bool.{then_some}
use Rattle.std.specs.List.{All}
use Rattle.std.specs.Option.{option_map}
use Rattle.wm_base.proofs.Plain.{option_or_parts}
use Rattle.wm_base.specs.declared.kind.Kind.{Kind}
use Rattle.wm_base.specs.declared.kind.Kind.TheVariants.{Insert, Update, Delete}
use Rattle.wm_graph.specs.Parts.{Parts, space_of}
use Rattle.wm_net.specs.Groups.{Group, cell}
use Rattle.wm_net.specs.Listed.{AreBlocks, Block, IsApart, IsJoined, IsListing, Stretch}
use Rattle.wm_net.specs.Nets.{IsToldListing, Stamped, gained, gained_at, net, one_stamp, replayed}
use Rattle.wm_net.proofs.Netting.{Stamped-drop, gained_listed as is_gained, net_is, stamped_told, told_net, outside_given}
use Rattle.wm_net.proofs.Owing.{AreOther, IsOther, listing_alike, listing_through, other_joined}
use Rattle.wm_net.proofs.Stretching.{Right}
use Rattle.wm_period.specs.Pieces.{Held}
use Rattle.wm_spec.specs.Lists.{Cell, Entry, Told, covers, told, told_of}
use Rattle.wm_spec.specs.declared.record.space.Space.{Space}
use Rattle.wm_spec.specs.declared.record.table.Table.{Table}
use Rattle.wm_state.specs.Standing.{IsReal, Stands, held_of}
use Rattle.wm_state.specs.State.{Durable, Workspace, workspace_of}
use Rattle.wm_state.proofs.Laying.{key_itself}
use Rattle.wm_telling.specs.Telling.{IsHeldListing, gained_held, own_held, replayed_by, same_held, same_kind, told_by}
use Rattle.wm_telling.proofs.Beside.{Beside, gained_is_held, gained_tells, own_is_held, own_tells}

-- ---- the test of what is held

same_kind-itself : (k : Kind) → same_kind k k ≡ true
same_kind-itself Insert = refl
same_kind-itself Update = refl
same_kind-itself Delete = refl

same_gone-itself : (b : Bool) → (if b then b else not b) ≡ true
same_gone-itself true = refl
same_gone-itself false = refl

pub same_held-itself : (h : Held) → same_held h h ≡ true
same_held-itself h =
    and_from (h.stamp.number == h.stamp.number) _ (eq-eqb h.stamp.number h.stamp.number refl)
    (and_from (same_kind h.kind h.kind) (if h.gone then h.gone else not h.gone) (same_kind-itself h.kind) (same_gone-itself h.gone))

-- ---- any test that is right for the values joins what another joins

other_first : {A : Type 0} (same : A → A → Bool) → ((x : A) → same x x ≡ true) → (p : Stretch A) (ps : List (Stretch A)) → IsApart same p ps → IsOther p ps
other_first same itself p [] apart = tt
other_first same itself p (q ∷ ps) apart = λ meets values.
    true≢false (sym (and_from (p.till == q.from) (same p.value q.value) (eq-eqb p.till q.from meets) (ap (λ x. same p.value x) (sym values) ∙ itself p.value)) ∙ apart)

others : {A : Type 0} (same : A → A → Bool) → ((x : A) → same x x ≡ true) → (ps : List (Stretch A)) → IsJoined same ps → AreOther ps
others same itself [] joined = tt
others same itself (p ∷ ps) joined = (other_first same itself p ps joined.0, others same itself ps joined.1)

blocks_retested : {A : Type 0} (same test : A → A → Bool) (f : Cell → Option A) → ((x : A) → same x x ≡ true) → ((g : Group) → Right test (λ t. f (cell g t)))
    → (bs : List (Block A)) → AreBlocks same f bs → AreBlocks test f bs
blocks_retested same test f itself right [] each = tt
blocks_retested same test f itself right (b ∷ bs) each = (
  record {
    ordered = each.0.ordered;
    joined = other_joined test (λ t. f (cell b.group t)) 0 b.stretches (right b.group) each.0.ordered (λ t le. each.0.holds t) (others same itself b.stretches each.0.joined);
    holds = each.0.holds;
  },
  blocks_retested same test f itself right bs each.1,
)

listing_retested : {A B : Type 0} (same test : A → A → Bool) (entry : Group → Stretch A → B) (f : Cell → Option A) (xs : List B) → ((x : A) → same x x ≡ true)
    → ((g : Group) → Right test (λ t. f (cell g t))) → IsListing same entry f xs → IsListing test entry f xs
listing_retested same test entry f xs itself right l = record {
  blocks = l.blocks;
  is = l.is;
  ascend = l.ascend;
  each = blocks_retested same test f itself right l.blocks l.each;
  others = l.others;
}

-- ---- what is held of what stamps tell

abbrev one_number : Held → Held → Bool
one_number h k = h.stamp.number == k.stamp.number

stamped_held : (tells : ℕ → Told) (o : Option Told) (x : Held) → ((t : Told) → o ≡ Some t → t ≡ tells t.stamp) → option_map held_of o ≡ Some x → x ≡ held_of (tells x.stamp.number)
stamped_held tells None x stamped e = absurd (cc)
stamped_held tells (Some t) x stamped e =
    let same : held_of t ≡ x = same_Some (held_of t) x e in
    sym same ∙ ap held_of (stamped t refl) ∙ ap (λ (h : Held). held_of (tells h.stamp.number)) same

right_held : (tells : ℕ → Told) (f : Cell → Option Held) (h : Cell → Option Told) → ((c : Cell) → f c ≡ option_map held_of (h c)) → ((c : Cell) (x : Told) → h c ≡ Some x → x ≡ tells x.stamp)
    → (g : Group) → Right one_number (λ t. f (cell g t))
right_held tells f h is stamped g = record {
  right = λ t u x y e k same.
      stamped_held tells (h (cell g t)) x (stamped (cell g t)) (sym (is (cell g t)) ∙ e)
      ∙ ap (λ (n : ℕ). held_of (tells n)) (eqb-true x.stamp.number y.stamp.number same)
      ∙ sym (stamped_held tells (h (cell g u)) y (stamped (cell g u)) (sym (is (cell g u)) ∙ k));
}

-- a listing of what is held of what stamps tell is one of what they tell
told_listed : (p : Parts) (moment : ℕ) (user : List ℕ) (tells : ℕ → Told) (f : Cell → Option Held) (h : Cell → Option Told) (es : List Entry) → ((c : Cell) → f c ≡ option_map held_of (h c))
    → ((c : Cell) → option_map (told_by p) (f c) ≡ h c) → ((c : Cell) (x : Told) → h c ≡ Some x → x ≡ tells x.stamp) → IsHeldListing p moment user f es → IsToldListing moment user h es
told_listed p moment user tells f h es is told_is stamped l =
    listing_alike one_stamp (replayed moment user) (λ c. option_map (told_by p) (f c)) h es told_is
    (listing_through (told_by p) one_number one_stamp (replayed_by p moment user) (replayed moment user) f es (λ x y. refl) (λ g s. refl)
    (listing_retested same_held one_number (replayed_by p moment user) f es same_held-itself (right_held tells f h is stamped) l))

-- ---- what is own

-- entries that list what a workspace has of its own are its net list
pub net_listed : (p : Parts) (d : Durable) (n : ℕ) (w : Workspace) (a : Space) (moment : ℕ) (user : List ℕ) (tells : ℕ → Told) (es : List Entry) → Stands p d → workspace_of d.spaces n ≡ Some w
    → space_of p.spaces n ≡ Some a → IsHeldListing p moment user (own_held p a) es → Stamped tells w.lists.own → es ≡ net moment user w.lists.own
net_listed p d n w a moment user tells es st is recorded l stamped =
    net_is moment user tells w.lists.own es stamped
    (told_listed p moment user tells (own_held p a) (told w.lists.own) es (own_is_held p d n w a st is recorded) (own_tells p d n w a st is recorded)
    (λ c x e. stamped_told tells w.lists.own c x stamped e) l)

-- an entry over a period covers a cell
covers_own : (e : Entry) → nat_lt e.from e.till ≡ true → covers e (record { table = e.table; key = e.key; time = e.from }) ≡ true
covers_own e real =
    and_from _ (nat_le e.from e.from && nat_lt e.from e.till) (and_from (e.table == e.table) _ (eq-eqb e.table e.table refl) (key_itself e.key))
    (and_from (nat_le e.from e.from) (nat_lt e.from e.till) (grind (arith, nat_tests)) real)

-- so entries over periods that tell nothing are none
none_told : (tables : List Table) (es : List Entry) → All (IsReal tables) es → ((c : Cell) → told es c ≡ None) → es ≡ []
none_told tables [] real none = refl
none_told tables (e ∷ es) real none =
    absurd (not_none (sym (ap (λ (b : Bool). then_some b (told_of e)) (covers_own e period)) ∙ (option_or_parts (told es c) (then_some (covers e c) (told_of e)) (none c)).1))
  where
    c : Cell
    c = record { table = e.table; key = e.key; time = e.from }

    period : nat_lt e.from e.till ≡ true
    period = let some = (All-head (IsReal tables) e es real).some in grind (arith, nat_tests)

    not_none : (let t : Option Told = Some (told_of e) in t) ≡ None → ⊥
    not_none h = cc

-- where nothing is listed, the workspace has nothing of its own
pub empty_own : (p : Parts) (d : Durable) (n : ℕ) (w : Workspace) (a : Space) (moment : ℕ) (user : List ℕ) (tells : ℕ → Told) (es : List Entry) → Stands p d → workspace_of d.spaces n ≡ Some w
    → space_of p.spaces n ≡ Some a → IsHeldListing p moment user (own_held p a) es → Stamped tells w.lists.own → es ≡ [] → w.lists.own ≡ []
empty_own p d n w a moment user tells es st is recorded l stamped empty =
    none_told d.tables w.lists.own (st.entries.own n w is)
    (λ c.
    sym (told_net moment user tells w.lists.own stamped c)
    ∙ ap (λ (xs : List Entry). told xs c) (sym (net_listed p d n w a moment user tells es st is recorded l stamped) ∙ empty))

-- and where it has nothing of its own, nothing is listed
pub own_empty : (p : Parts) (d : Durable) (n : ℕ) (w : Workspace) (a : Space) (moment : ℕ) (user : List ℕ) (tells : ℕ → Told) (es : List Entry) → Stands p d → workspace_of d.spaces n ≡ Some w
    → space_of p.spaces n ≡ Some a → IsHeldListing p moment user (own_held p a) es → Stamped tells w.lists.own → w.lists.own ≡ [] → es ≡ []
own_empty p d n w a moment user tells es st is recorded l stamped empty = net_listed p d n w a moment user tells es st is recorded l stamped ∙ ap (net moment user) empty

-- ---- what is gained

-- entries that list what a workspace gains of its parent are its gained list
pub gained_listed : (p : Parts) (d : Durable) (n : ℕ) (w q : Workspace) (a b : Space) (moment : ℕ) (user : List ℕ) (tells : ℕ → Told) (es : List Entry) → Beside p d n w q a b
    → IsHeldListing p moment user (gained_held p a b) es → Stamped tells q.lists.log → es ≡ gained moment user w.lists.own (drop w.from q.lists.log)
gained_listed p d n w q a b moment user tells es beside l stamped =
    is_gained moment user tells w.lists.own (drop w.from q.lists.log) es behind
    (told_listed p moment user tells (gained_held p a b) (gained_at w.lists.own (drop w.from q.lists.log)) es (gained_is_held p d n w q a b beside) (gained_tells p d n w q a b beside)
    (λ c x e. stamped_told tells (drop w.from q.lists.log) c x behind (outside_given (told w.lists.own c) (told (drop w.from q.lists.log) c) x e)) l)
  where
    behind : Stamped tells (drop w.from q.lists.log)
    behind = Stamped-drop tells w.from q.lists.log stamped
