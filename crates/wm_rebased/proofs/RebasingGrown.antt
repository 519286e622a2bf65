-- A version more, above all others, with pieces of its own: what is seen then, what stands above a base, and where it ends. The records
-- without the new pieces have a version more with nothing in it (wm_forked's Sprouting); with them that version, under which none stands,
-- has more (wm_written's Nearest).
use Rattle.std.proofs.Common.{◌≡◌, ◌≢◌, ℕ, ◌<◌, ◌==◌, Bool, true, false, if◌then◌else◌, List, [], ◌∷◌, Option, Some, None, is_some, refl, sym, ap, ◌∙◌, arith}
use Rattle.std.proofs.lemmas.Bool.{eq-eqb, eqb-true, ne_eqb, and_from, and_parts, true≢false}
use Rattle.std.proofs.lemmas.List.Folds.{list_all-append}
use Rattle.std.specs.List.{list_all}
use Rattle.std.specs.Option.{option_map, option_or}
use Rattle.wm_base.proofs.Plain.{less_apart, option_or-none}
use Rattle.wm_graph.specs.Parts.{Parts}
use Rattle.wm_graph.specs.Rules.{keep_rules}
use Rattle.wm_spec.specs.Lists.{Cell, Entry, Told, told}
use Rattle.wm_spec.specs.declared.record.piece.PieceRecord.{PieceRecord}
use Rattle.wm_tree.specs.declared.version.Version.{Version as Node}
use Rattle.wm_state.specs.Effects.{IsLeaf, is_there}
use Rattle.wm_state.specs.Standing.{Covers, has_ends, have_ends, held_of, is_above, latest, newest_first, own_at, seen, seen_above, seen_at, stored_at}
use Rattle.wm_state.proofs.Above.{above-leaf, ends-beside, ends-itself, ends-under, pieces_lower}
use Rattle.wm_state.proofs.Ending.{all_end}
use Rattle.wm_state.proofs.Forking.{own-beside, own-none, own-under, seen-beside, seen-under}
use Rattle.wm_state.proofs.Laying.{stored-append}
use Rattle.wm_state.proofs.Tests.{all_if}
use Rattle.wm_forked.proofs.Sprouting.{Sprouted, newest-away, newest-here}
use Rattle.wm_written.proofs.Nearest.{SameAway, own-away, own-here, seen-away, seen-here}
use Rattle.wm_rebased.specs.Rebasing.{Grafted}

-- the records without the new pieces
abbrev bare : Parts → Parts → Parts
bare p q = record q { pieces = p.pieces }

-- pieces of one version store nothing in another
stored-other : (number : ℕ) (xs : List PieceRecord) (v : ℕ) (c : Cell) → list_all (λ (y : PieceRecord). y.version == number) xs ≡ true → (v == number) ≡ false → stored_at xs v c ≡ None
stored-other number [] v c its other = refl
stored-other number (x ∷ xs) v c its other =
    let h = and_parts (x.version == number) (list_all (λ (y : PieceRecord). y.version == number) xs) its in
    rw (ne_eqb x.version v (λ same. true≢false (sym (eq-eqb v number (sym same ∙ eqb-true x.version number h.0)) ∙ other))) (stored-other number xs v c h.1 other)

module _ (p q : Parts) (x : Node) (news : List PieceRecord) (g : Grafted p q x news) where
  abbrev older : List Node
  older = newest_first p.versions

  sprouted : Sprouted p (bare p q) x
  sprouted = record { some = g.some; below = g.below; versions = g.versions; empty = g.empty; pieces = refl }

  -- every version but the new one has what it had
  away : (c : Cell) → SameAway x.number p.pieces q.pieces c
  away c v other = ap (λ ps. stored_at ps v c) g.pieces ∙ stored-append p.pieces news v c ∙ ap (option_or (stored_at p.pieces v c)) (stored-other x.number news v c g.its other) ∙ option_or-none (stored_at p.pieces v c)

  -- and that one has the new pieces
  gained : (c : Cell) → stored_at q.pieces x.number c ≡ option_or (stored_at news x.number c) (stored_at p.pieces x.number c)
  gained c =
      ap (λ ps. stored_at ps x.number c) g.pieces
      ∙ stored-append p.pieces news x.number c
      ∙ ap (λ o. option_or o (stored_at news x.number c)) (g.empty c)
      ∙ sym (ap (option_or (stored_at news x.number c)) (g.empty c) ∙ option_or-none (stored_at news x.number c))

  above : (x.number == x.parent) ≡ false
  above = ne_eqb x.number x.parent (λ same. omega (arith, g.under, same))

  leaf : IsLeaf x.number (x ∷ older)
  leaf = (less_apart x.parent x.number g.under, g.leaf)

  there : is_there x.number (x ∷ older) ≡ true
  there = rw (eq-eqb x.number x.number refl) refl

  -- ---- what is seen

  -- what was there before sees what it saw
  pub seen-old : (v : ℕ) (c : Cell) → v < x.number → seen q v c ≡ seen p v c
  seen-old v c lt =
      ap (λ nodes. seen_at q.pieces nodes v c) g.versions
      ∙ seen-away x.number p.pieces q.pieces c (away c) (x ∷ older) leaf v (less_apart v x.number lt)
      ∙ seen-beside p.pieces x older v c lt

  -- the new version sees its own pieces over what its parent saw
  pub seen-graft : (c : Cell) → seen q x.number c ≡ option_or (stored_at news x.number c) (seen p x.parent c)
  seen-graft c =
      ap (λ nodes. seen_at q.pieces nodes x.number c) g.versions
      ∙ seen-here x.number p.pieces q.pieces c (stored_at news x.number c) (away c) (gained c) (x ∷ older) leaf there
      ∙ ap (option_or (stored_at news x.number c)) (seen-under p.pieces x older c (g.empty c))

  -- ---- what stands above a base

  above-old : (base v : ℕ) (c : Cell) → v < x.number → seen_above q base v c ≡ seen_above p base v c
  above-old base v c lt =
      ap (λ nodes. own_at q.pieces nodes base v c) g.versions
      ∙ own-away x.number p.pieces q.pieces c (away c) base (x ∷ older) leaf v (less_apart v x.number lt)
      ∙ own-beside p.pieces x older base v c lt

  above-graft : (c : Cell) → seen_above q x.parent x.number c ≡ stored_at news x.number c
  above-graft c =
      ap (λ nodes. own_at q.pieces nodes x.parent x.number c) g.versions
      ∙ own-here x.number p.pieces q.pieces c (stored_at news x.number c) (away c) (gained c) x.parent above (x ∷ older) leaf there
      ∙ ap (option_or (stored_at news x.number c)) (own-under p.pieces x older x.parent c above (g.empty c) ∙ own-none p.pieces older x.parent c)
      ∙ option_or-none (stored_at news x.number c)

  -- ---- where pieces end

  -- the old pieces and the new
  ends-in : (base v : ℕ) (es : List Entry) → all_end (is_above (x ∷ older) base v) es p.pieces ≡ true → all_end (is_above (x ∷ older) base v) es news ≡ true → have_ends q base v es ≡ true
  ends-in base v es olds new =
      ap (λ nodes. all_end (is_above nodes base v) es q.pieces) g.versions
      ∙ ap (all_end (is_above (x ∷ older) base v) es) g.pieces
      ∙ list_all-append (λ (y : PieceRecord). if is_above (x ∷ older) base v y.version then has_ends es y.cells else true) p.pieces news
      ∙ and_from (all_end (is_above (x ∷ older) base v) es p.pieces) (all_end (is_above (x ∷ older) base v) es news) olds new

  -- on the path of what was there before is none of the new pieces
  ends-old : keep_rules p ≡ true → (base v : ℕ) → v < x.number → (es : List Entry) → have_ends p base v es ≡ true → have_ends q base v es ≡ true
  ends-old rules base v lt es e = ends-in base v es
      (ends-beside x older base v es p.pieces lt (pieces_lower p rules x.number g.below) e)
      (all_if (λ (y : PieceRecord). y.version == x.number) (λ (y : PieceRecord). if is_above (x ∷ older) base v y.version then has_ends es y.cells else true)
      (λ y is. ap (λ b. if b then has_ends es y.cells else true)
      (ap (is_above (x ∷ older) base v) (eqb-true y.version x.number is) ∙ above-leaf x.number base (x ∷ older) leaf v (less_apart v x.number lt))) news g.its)

  -- and above the parent of the new version stand no others
  ends-graft : keep_rules p ≡ true → (es : List Entry) → list_all (λ (y : PieceRecord). has_ends es y.cells) news ≡ true → have_ends q x.parent x.number es ≡ true
  ends-graft rules es e = ends-in x.parent x.number es
      (ends-under x older x.parent es p.pieces above (pieces_lower p rules x.number g.below) (ends-itself older x.parent es p.pieces))
      (all_if (λ (y : PieceRecord). has_ends es y.cells) (λ (y : PieceRecord). if is_above (x ∷ older) x.parent x.number y.version then has_ends es y.cells else true)
      (λ y is. either (is_above (x ∷ older) x.parent x.number y.version) (has_ends es y.cells) is) news e)
    where
      either : (a b : Bool) → b ≡ true → (if a then b else true) ≡ true
      either true b is = is
      either false b is = refl

  -- ---- what is covered

  pub covers-old : keep_rules p ≡ true → (base v : ℕ) → v < x.number → (es : List Entry) → Covers p base v es → Covers q base v es
  covers-old rules base v lt es h = record { cells = λ c. ap is_some (above-old base v c lt) ∙ h.cells c; ends = ends-old rules base v lt es h.ends }

  -- the new version covers over its parent what its pieces hold and end with
  pub covers-graft : keep_rules p ≡ true → (es : List Entry) → ((c : Cell) → stored_at news x.number c ≡ option_map held_of (told es c)) → list_all (λ (y : PieceRecord). has_ends es y.cells) news ≡ true → Covers q x.parent x.number es
  covers-graft rules es holds ends = record { cells = λ c. ap is_some (above-graft c ∙ holds c) ∙ some-map (told es c); ends = ends-graft rules es ends }
    where
      some-map : (o : Option Told) → is_some (option_map held_of o) ≡ is_some o
      some-map None = refl
      some-map (Some t) = refl

  -- ---- the newest version of each workspace

  pub newest-graft : latest q x.space ≡ x.number
  newest-graft = newest-here p (bare p q) x sprouted

  pub newest-old : (m : ℕ) → m ≢ x.space → latest q m ≡ latest p m
  newest-old m other = newest-away p (bare p q) x sprouted m other
