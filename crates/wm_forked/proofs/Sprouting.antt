-- A version more, above all others and with nothing in it: what is seen then.
use Rattle.std.proofs.Common.{◌≡◌, ◌≢◌, ℕ, ◌<◌, true, List, [], ◌∷◌, None, is_some, refl, sym, ap, ◌∙◌, arith}
use Rattle.std.proofs.lemmas.Bool.{eq-eqb, ne_eqb}
use Rattle.wm_graph.specs.Parts.{Parts}
use Rattle.wm_graph.specs.Rules.{keep_rules}
use Rattle.wm_spec.specs.Lists.{Entry, Cell}
use Rattle.wm_tree.specs.Versions.{AllBelow}
use Rattle.wm_tree.specs.declared.version.Version.{Version as Node}
use Rattle.wm_state.specs.Standing.{stored_at, seen_at, own_at, newest_first, latest, seen, seen_above, is_above, have_ends, Covers}
use Rattle.wm_state.proofs.Above.{ends-beside, ends-under, ends-itself, pieces_lower}
use Rattle.wm_state.proofs.Ending.{all_end}
use Rattle.wm_state.proofs.Forking.{own-none, seen-beside, own-beside, seen-under, own-under}

pub record Sprouted (p q : Parts) (x : Node) : Type 0 where
  pub some : 0 < x.number
  pub below : AllBelow x.number (newest_first p.versions)
  pub versions : newest_first q.versions ≡ x ∷ newest_first p.versions
  pub empty : (c : Cell) → stored_at p.pieces x.number c ≡ None
  pub pieces : q.pieces ≡ p.pieces

-- ---- what is seen

seen-in : (p q : Parts) (x : Node) → Sprouted p q x → (v : ℕ) (c : Cell) → seen q v c ≡ seen_at p.pieces (x ∷ newest_first p.versions) v c
seen-in p q x s v c = ap (λ nodes. seen_at q.pieces nodes v c) s.versions ∙ ap (λ pieces. seen_at pieces (x ∷ newest_first p.versions) v c) s.pieces

above-in : (p q : Parts) (x : Node) → Sprouted p q x → (base v : ℕ) (c : Cell) → seen_above q base v c ≡ own_at p.pieces (x ∷ newest_first p.versions) base v c
above-in p q x s base v c = ap (λ nodes. own_at q.pieces nodes base v c) s.versions ∙ ap (λ pieces. own_at pieces (x ∷ newest_first p.versions) base v c) s.pieces

-- what was there before sees what it saw
pub seen-before : (p q : Parts) (x : Node) → Sprouted p q x → (v : ℕ) (c : Cell) → v < x.number → seen q v c ≡ seen p v c
seen-before p q x s v c lt = seen-in p q x s v c ∙ seen-beside p.pieces x (newest_first p.versions) v c lt

-- and has above a base what it had
above-before : (p q : Parts) (x : Node) → Sprouted p q x → (base v : ℕ) (c : Cell) → v < x.number → seen_above q base v c ≡ seen_above p base v c
above-before p q x s base v c lt = above-in p q x s base v c ∙ own-beside p.pieces x (newest_first p.versions) base v c lt

-- the new version sees what its parent saw
pub seen-sprout : (p q : Parts) (x : Node) → Sprouted p q x → (c : Cell) → seen q x.number c ≡ seen p x.parent c
seen-sprout p q x s c = seen-in p q x s x.number c ∙ seen-under p.pieces x (newest_first p.versions) c (s.empty c)

-- and has nothing above its parent
above-sprout : (p q : Parts) (x : Node) → Sprouted p q x → (c : Cell) → x.parent < x.number → seen_above q x.parent x.number c ≡ None
above-sprout p q x s c lt =
    above-in p q x s x.parent x.number c
    ∙ own-under p.pieces x (newest_first p.versions) x.parent c (ne_eqb x.number x.parent (λ same. omega (arith, lt, same))) (s.empty c)
    ∙ own-none p.pieces (newest_first p.versions) x.parent c

-- ---- where pieces end

ends-in : (p q : Parts) (x : Node) → Sprouted p q x → (base v : ℕ) (es : List Entry) → have_ends q base v es ≡ all_end (is_above (x ∷ newest_first p.versions) base v) es p.pieces
ends-in p q x s base v es = ap (λ nodes. all_end (is_above nodes base v) es q.pieces) s.versions ∙ ap (all_end (is_above (x ∷ newest_first p.versions) base v) es) s.pieces

-- what stands on the path of what was there before ends where it did
ends-before : (p q : Parts) (x : Node) → Sprouted p q x → keep_rules p ≡ true → (base v : ℕ) → v < x.number → (es : List Entry) → have_ends p base v es ≡ true → have_ends q base v es ≡ true
ends-before p q x s rules base v lt es e = ends-in p q x s base v es ∙ ends-beside x (newest_first p.versions) base v es p.pieces lt (pieces_lower p rules x.number s.below) e

-- and the new version has no piece above its parent
ends-sprout : (p q : Parts) (x : Node) → Sprouted p q x → keep_rules p ≡ true → x.parent < x.number → (es : List Entry) → have_ends q x.parent x.number es ≡ true
ends-sprout p q x s rules lt es =
    ends-in p q x s x.parent x.number es
    ∙ ends-under x (newest_first p.versions) x.parent es p.pieces (ne_eqb x.number x.parent (λ same. omega (arith, lt, same))) (pieces_lower p rules x.number s.below)
    (ends-itself (newest_first p.versions) x.parent es p.pieces)

-- ---- what is covered

-- so what was there before covers what it covered, and the new version nothing
pub covers-before : (p q : Parts) (x : Node) → Sprouted p q x → keep_rules p ≡ true → (base v : ℕ) → v < x.number → (es : List Entry) → Covers p base v es → Covers q base v es
covers-before p q x s rules base v lt es h = record { cells = λ c. ap is_some (above-before p q x s base v c lt) ∙ h.cells c; ends = ends-before p q x s rules base v lt es h.ends }

pub covers-sprout : (p q : Parts) (x : Node) → Sprouted p q x → keep_rules p ≡ true → x.parent < x.number → Covers q x.parent x.number []
covers-sprout p q x s rules lt = record { cells = λ c. ap is_some (above-sprout p q x s c lt); ends = ends-sprout p q x s rules lt [] }

-- ---- the newest version of each workspace

-- the new one is the newest of its workspace
pub newest-here : (p q : Parts) (x : Node) → Sprouted p q x → latest q x.space ≡ x.number
newest-here p q x s = rw (s.versions, eq-eqb x.space x.space refl) refl

-- every other workspace has the one that it had
pub newest-away : (p q : Parts) (x : Node) → Sprouted p q x → (m : ℕ) → m ≢ x.space → latest q m ≡ latest p m
newest-away p q x s m other = rw (s.versions, ne_eqb x.space m (λ same. other (sym same))) refl
