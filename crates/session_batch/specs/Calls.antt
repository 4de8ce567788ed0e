-- docs/RULES.md, 14.2 and 14.3: the words of a batch, read call by call.
use Rattle.std.specs.Prelude.{ℕ, List, [], ◌∷◌, eqb, leb, ltb, length, get_or, take, drop as past}
use Rattle.lists.specs.Lists.{pick}
use Rattle.steps.specs.Runs.{StoreCall, open', put, link, close, drop}

-- ---- the first word of each call

abbrev pub open_word : ℕ
open_word = 1

abbrev pub put_word : ℕ
put_word = 2

-- a link to a closed object by its id
abbrev pub link_word : ℕ
link_word = 3

-- a link to what a close of this batch told
abbrev pub own_link_word : ℕ
own_link_word = 4

abbrev pub close_word : ℕ
close_word = 5

abbrev pub drop_word : ℕ
drop_word = 6

-- ---- what the next words say: nothing, since there are none; no call; or a call, with the words and the bytes that are left behind it

pub data Said : Type 0 where
  nothing : Said
  no_call : Said
  says : StoreCall → List ℕ → List ℕ → Said

-- a put of the next n bytes
abbrev pub said_put : List ℕ → List ℕ → Said
said_put bytes [] = no_call
said_put bytes (n ∷ ws) = pick (leb n (length bytes)) (says (put (take n bytes)) ws (past n bytes)) no_call

abbrev pub said_link : List ℕ → List ℕ → Said
said_link bytes [] = no_call
said_link bytes (width ∷ []) = no_call
said_link bytes (width ∷ id ∷ []) = no_call
said_link bytes (width ∷ id ∷ inner ∷ ws) = says (link width id inner) ws bytes

-- `ids` are those that the closes so far told
abbrev pub said_own_link : List ℕ → List ℕ → List ℕ → Said
said_own_link ids bytes [] = no_call
said_own_link ids bytes (width ∷ []) = no_call
said_own_link ids bytes (width ∷ j ∷ []) = no_call
said_own_link ids bytes (width ∷ j ∷ inner ∷ ws) = pick (ltb j (length ids)) (says (link width (get_or ids j 0) inner) ws bytes) no_call

-- `room` is how many ids may be told
abbrev pub said_close : ℕ → List ℕ → List ℕ → List ℕ → Said
said_close room ids bytes ws = pick (ltb (length ids) room) (says close ws bytes) no_call

unfoldable pub said : ℕ → List ℕ → List ℕ → List ℕ → Said
said room ids bytes [] = nothing
said room ids bytes (k ∷ ws) =
    pick (eqb k open_word) (says open' ws bytes)
    (pick (eqb k put_word) (said_put bytes ws)
    (pick (eqb k link_word) (said_link bytes ws)
    (pick (eqb k own_link_word) (said_own_link ids bytes ws)
    (pick (eqb k close_word) (said_close room ids bytes ws)
    (pick (eqb k drop_word) (says drop ws bytes) no_call)))))
