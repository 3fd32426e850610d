-- What is kept beside the entries, so that look-ups are fast. No contract of a public call mentions it.
use Rattle.std.specs.Prelude.{◌≡◌, ℕ, ◌+◌, ◌≤◌, ◌<◌, List, [], ◌∷◌, ◌++◌, length, slice_index_or, Option, Some, None}
use Rattle.stk_ctype.specs.declared.symbol.MemberInfo.{MemberInfo}
use Rattle.stk_ctype.specs.declared.symbol.Symbol.{Symbol}
use Rattle.stk_ctype.specs.declared.symbol.NameEntry.{NameEntry}
use Rattle.stk_ctype.specs.declared.symbol.NameEntry.TheVariants as entry
use Rattle.stk_ctype.specs.declared.symbol.Tag.{Tag}
use Rattle.stk_ctype.specs.declared.symbol.Tag.TheVariants as tag
use Rattle.stk_ctype.specs.declared.facts.Layout.{Layout}
use Rattle.stk_ctype.specs.declared.facts.Facts.{Facts}
use Rattle.stk_ctype.specs.Structs.{Structs, StructLayout, struct_at, after, structs_of, laid_out, size_limit}
use Rattle.stk_ctype.specs.Sound.{RestsOn}
use Rattle.stk_ctype.specs.Names.{structs_in}
use Rattle.stk_ctype.specs.Index.{IsIndexOf}

-- the name that an entry gives a meaning, with the entry's position
abbrev pub symbol_word : ℕ → NameEntry → List (List ℕ × ℕ)
symbol_word at (entry.Symbol name symbol) = (name, at) ∷ []
symbol_word at (entry.Struct tag) = []
symbol_word at (entry.Members id members) = []
symbol_word at (entry.Enumeration tag) = []

-- the names that entries give a meaning, from a position on
abbrev pub symbol_words : ℕ → List NameEntry → List (List ℕ × ℕ)
symbol_words at [] = []
symbol_words at (e ∷ es) = symbol_word at e ++ symbol_words (at + 1) es

-- the tag that an entry declares behind so many structs, with its meaning
abbrev pub tag_word : ℕ → NameEntry → List (List ℕ × Tag)
tag_word count (entry.Symbol name symbol) = []
tag_word count (entry.Struct None) = []
tag_word count (entry.Struct (Some t)) = (t, tag.Struct count) ∷ []
tag_word count (entry.Members id members) = []
tag_word count (entry.Enumeration t) = (t, tag.Enumeration) ∷ []

-- the tags that entries declare behind so many structs
abbrev pub tag_words : ℕ → List NameEntry → List (List ℕ × Tag)
tag_words count [] = []
tag_words count (e ∷ es) = tag_word count e ++ tag_words (count + structs_in e) es

-- the names of members with their places, counted from one on, the last member first
abbrev pub member_words : ℕ → List MemberInfo → List (List ℕ × ℕ)
member_words at [] = []
member_words at (m ∷ ms) = member_words (at + 1) ms ++ (m.name, at) ∷ []

-- the entry at a position
abbrev pub entry_at : List NameEntry → ℕ → NameEntry
entry_at es at = slice_index_or es at (entry.Enumeration [])

-- what is kept of the struct of a number is how it is laid out
pub record IsLayoutOf (es : List NameEntry) (id : ℕ) (kept : Layout) (s : StructLayout) : Type 0 where
  pub at : kept.at < length es
  pub members : entry_at es kept.at ≡ entry.Members id s.members
  pub places : IsIndexOf kept.places (member_words 0 s.members)
  pub offsets : kept.offsets.items ≡ s.offsets
  pub size : kept.size ≡ s.size
  pub some : 1 ≤ s.size
  pub within : s.size ≤ size_limit
  pub alignment : kept.alignment ≡ s.alignment
  pub least : 1 ≤ s.alignment
  pub greatest : s.alignment ≤ 8

-- the same of a struct that may be incomplete
abbrev pub IsKept : List NameEntry → ℕ → Option Layout → Option StructLayout → Type 0
IsKept es id None None = Unit {0}
IsKept es id None (Some s) = ⊥
IsKept es id (Some kept) None = ⊥
IsKept es id (Some kept) (Some s) = IsLayoutOf es id kept s

-- each entry rests on those before it
abbrev pub AreLawful : Structs → List NameEntry → Type 0
AreLawful structs [] = Unit {0}
AreLawful structs (e ∷ es) = RestsOn structs e × AreLawful (after structs e) es

-- the facts are those of these entries
pub record AreFactsOf (facts : Facts) (es : List NameEntry) : Type 0 where
  pub symbols : IsIndexOf facts.symbols (symbol_words 0 es)
  pub tags : IsIndexOf facts.tags (tag_words 0 es)
  pub count : length facts.layouts.items ≡ length (structs_of es)
  pub layouts : (id : ℕ) → IsKept es id (slice_index_or facts.layouts.items id None) (struct_at (structs_of es) id)
  pub lawful : AreLawful [] es

-- what an entry says a name means, whatever the name
abbrev pub symbol_in : NameEntry → Option Symbol
symbol_in (entry.Symbol name symbol) = Some symbol
symbol_in (entry.Struct tag) = None
symbol_in (entry.Members id members) = None
symbol_in (entry.Enumeration tag) = None

-- a layout to be kept is that of the struct that an entry gives its members; any other entry has none
abbrev pub IsNewLayout : List NameEntry → NameEntry → Option Layout → Type 0
IsNewLayout es (entry.Symbol name symbol) kept = kept ≡ None
IsNewLayout es (entry.Struct tag) kept = kept ≡ None
IsNewLayout es (entry.Members id members) kept = IsKept (es ++ entry.Members id members ∷ []) id kept (Some (laid_out (structs_of es) members))
IsNewLayout es (entry.Enumeration tag) kept = kept ≡ None
