use Rattle.std.proofs.Common.{◌++◌, ap, ◌∙◌}
use Rattle.wm_page.specs.Entries.{no_page_twice}
use Rattle.wm_heap.specs.Draft.{written}
use Rattle.wm_heap.proofs.Planning.{once_paged}
use Rattle.wm_heap.proofs.draft.page_batch.Goals as goal

pub invariant_of-result : goal.invariant_of-result
invariant_of-result c = record {
  distinct =
      ap no_page_twice (c.in_ok-write_pages.ensures.pages ∙ ap (λ l. l ++ written c.args.changed.now.entries) c.in_ok-pages.ensures.pages)
      ∙ once_paged c.args.before c.args.count c.args.changed.now.entries c.in_ok-write_pages.ensures.ordered c.requires.within;
}
