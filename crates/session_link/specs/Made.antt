-- The link that a call asks for, as code has it.
use Rattle.std.specs.Prelude.{ℕ, ◌≡◌, List}
use Rattle.layout.specs.declared.link.Link.{Link}
use Rattle.layout.specs.Links.{link_in, InWords}
use Rattle.steps.specs.Steps.{made_link}

pub record Made (width id inner : ℕ) (w : List ℕ) (l : Link) : Type 0 where
  pub is : link_in l ≡ made_link width id inner w
  pub width_is : l.width ≡ width
  pub child_is : l.child ≡ id
  pub held : InWords l
