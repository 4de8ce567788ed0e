-- docs/RULES.md, 16.3: the parameters that a feature may have hang on its tag: 'ss01' to 'ss20', 'cv01' to 'cv99', 'size'.
use Rattle.std.specs.Prelude.{ℕ, ◌+◌, ◌-◌, ◌*◌, ◌/◌, ◌%◌, Bool, ◌&&◌, eqb, leb}
use Rattle.lists.specs.Lists.{pick}
use Rattle.gsub.specs.declared.Params.TheVariants.{Size, StylisticSet, CharacterVariant}
use Rattle.gsub.specs.declared.Kind.{Kind}
use Rattle.gsub.specs.declared.Kind.TheVariants.{Feature, FeatureWith}

-- two characters of a tag, as a 16-bit number
abbrev pub letters : ℕ → ℕ → ℕ
letters a b = a * 256 + b

-- 's' 's', 'c' 'v', 's' 'i', 'z' 'e'
abbrev pub stylistic : ℕ
stylistic = letters 115 115

abbrev pub variant : ℕ
variant = letters 99 118

abbrev pub size1 : ℕ
size1 = letters 115 105

abbrev pub size2 : ℕ
size2 = letters 122 101

-- '0'
abbrev pub char0 : ℕ
char0 = 48

abbrev pub is_digit : ℕ → Bool
is_digit c = leb char0 c && leb c (char0 + 9)

-- the number that two digits write, 0 where they are none
unfoldable pub two_digits : ℕ → ℕ
two_digits n = let tens = n / 256 in let units = n % 256 in pick (is_digit tens && is_digit units) ((tens - char0) * 10 + (units - char0)) 0

-- the tag's two halves say which Feature it is
unfoldable pub feature_by : ℕ → ℕ → Kind
feature_by first second =
    let n = two_digits second in
    pick (eqb first stylistic && (leb 1 n && leb n 20)) (FeatureWith StylisticSet)
    (pick (eqb first variant && leb 1 n) (FeatureWith CharacterVariant)
    (pick (eqb first size1 && eqb second size2) (FeatureWith Size) Feature))
