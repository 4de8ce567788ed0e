-- `copy_child` meets its contract: its steps joined.
use mathlib.Core.Path.{refl}
use Rattle.order_copies.proofs.Growing.{appending-asks, leading-asks, counting-asks, inserting-asks, child-copied}
use Rattle.order_copies.proofs.copy_child.Goals as goal

pub append_node-more-requires : goal.append_node-more-requires
append_node-more-requires c =
    let pre = c.requires in
    appending-asks pre c.find_link-t.ensures c.field_at-f.ensures

pub lead_link-requires : goal.lead_link-requires
lead_link-requires c =
    let pre = c.requires in
    leading-asks pre c.find_link-t.ensures c.field_at-f.ensures c.append_node-more.ensures

pub count_copy-requires : goal.count_copy-requires
count_copy-requires c =
    let pre = c.requires in
    counting-asks pre c.find_link-t.ensures c.field_at-f.ensures c.append_node-more.ensures
    c.lead_link.ensures c.note_copy.ensures

pub put_behind-requires : goal.put_behind-requires
put_behind-requires c =
    let pre = c.requires in
    inserting-asks pre c.find_link-t.ensures c.field_at-f.ensures c.append_node-more.ensures
    c.lead_link.ensures c.note_copy.ensures c.count_copy.ensures

pub returns : goal.returns
returns c =
    let pre = c.requires in
    child-copied pre c.find_link-t.ensures c.field_at-f.ensures c.append_node-more.ensures
    c.lead_link.ensures c.note_copy.ensures c.count_copy.ensures c.put_behind.ensures refl
