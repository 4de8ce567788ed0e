-- The innermost open object's edges give the field's place.
use mathlib.Core.Path.{refl}
use borrow.Author.Rules.{rules}
use Rattle.session_link.proofs.made_link.Goals as goal

pub returns : goal.returns
returns c =
    let own = c.innermost-own.ensures in
    record {
      is = rw own.is;
      width_is = refl;
      child_is = refl;
      held = record { at = search rules; width = search rules; inner = search rules; child = search rules };
    }
