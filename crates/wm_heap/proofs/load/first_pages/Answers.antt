use Rattle.std.proofs.Common.{ℕ, ◌++◌, ◌∷◌, [], List, ap, ◌∙◌}
use Rattle.wm_page.proofs.Batches.{entries-append}
use Rattle.wm_page.specs.Batch.{entries}
use Rattle.wm_page.specs.Entries.{no_page_twice}
use Rattle.wm_heap.specs.Plan.{root_of}
use Rattle.wm_heap.proofs.load.first_pages.Goals as goal

pub returns-clause-pages : goal.returns-clause-pages
returns-clause-pages c =
    ap entries c.in_ok-push.ensures.ok ∙ entries-append c.in_ok-pages.pages _
    ∙ ap (λ (l : List (ℕ × List ℕ)). l ++ (2, c.in_ok-bytes.bytes) ∷ []) c.in_ok-pages.ensures.pages
    ∙ ap (λ (b : List ℕ). (1, root_of 3) ∷ (2, b) ∷ []) c.in_ok-bytes.ensures.page

pub invariant_of-result : goal.invariant_of-result
invariant_of-result c = record {
  distinct =
      ap no_page_twice
      (
      ap entries c.in_ok-push.ensures.ok ∙ entries-append c.in_ok-pages.pages _
      ∙ ap (λ (l : List (ℕ × List ℕ)). l ++ (2, c.in_ok-bytes.bytes) ∷ []) c.in_ok-pages.ensures.pages
      );
}
