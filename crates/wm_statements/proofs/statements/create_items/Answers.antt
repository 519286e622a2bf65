use Rattle.std.proofs.Common.{refl}
use Rattle.wm_grammar.specs.StatementReaders.{create_items_at}
use Rattle.wm_grammar.proofs.Loops.{takes_one}
use Rattle.wm_grammar.proofs.StatementLaws.{next_item_exact}
use Rattle.wm_statements.proofs.Items.{items_on}
use Rattle.wm_statements.proofs.statements.create_items.Goals as goal

pub items-smaller : goal.items-smaller
items-smaller c = takes_one (next_item_exact c.items.keyed) refl c.items.cursor c.in_ok-next.next c.next_item.new.cursor c.in_ok-next.ensures

pub items-preserved : goal.items-preserved
items-preserved c =
    items_on c.items.keyed c.keyed_by-keyed.result c.items.list.items c.push-in-items.new.self.items c.items.cursor c.next_item.new.cursor (create_items_at c.args.cursor.now) c.in_ok-next.next c.keyed_by-keyed.ensures c.in_ok-push-2.ensures.items
    c.items-test.ensures c.in_ok-next.ensures c.items.invariant
