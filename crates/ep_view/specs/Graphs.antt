-- The dependency graph of what journals commit, for Graphviz.
use Rattle.std.specs.Prelude.{◌≡◌, ℕ, zero, suc, Bool, true, false, ◌&&◌, not, cond, eqb, nat_lt, List, [], ◌∷◌, ◌++◌, Option, Some, None, filter, reverse, codes}
use Rattle.ep_base.specs.Deps.{union}
use Rattle.ep_base.specs.Quorums.{size}
use Rattle.ep_base.specs.declared.decree.Decree.{Decree}
use Rattle.ep_base.specs.declared.reply.Reply.{Reply}
use Rattle.ep_base.specs.declared.version.Version.{Version}
use Rattle.ep_base.specs.declared.version_kind.VersionKind.TheVariants.{V1, V2, V3}
use Rattle.ep_audit.specs.Tables.{agreed_in}
use Rattle.ep_audit.specs.Verdicts.{IsSummary}
use Rattle.ep_audit.specs.declared.happening.Happening.{Happening}
use Rattle.ep_audit.specs.declared.summary.Summary.{Summary}
use Rattle.ep_journal.specs.Entries.{Collected, entries_at, journals_of}
use Rattle.ep_journal.specs.Openings.{Opening, opens}
use Rattle.ep_journal.specs.declared.entry.Entry.{Entry}
use Rattle.ep_journal.specs.declared.event.Event.{Event}
use Rattle.ep_journal.specs.declared.event.Event.TheVariants.{Propose, Handle, GiveUp, Recover, Execute}
use Rattle.ep_report.specs.Parts.{instance_text, command_text, reply_text}
use Rattle.ep_view.specs.Editions.{edition_text}
use Rattle.ep_view.specs.Kept.{is_one_of, keeps}
use Rattle.ep_view.specs.Labels.{dot_words}
use Rattle.ep_view.specs.Wanted.{with_taken}
use Rattle.ep_view.specs.declared.selection.Selection.{Selection}

-- Which instances are kept.

-- the instances is, and the one that a proposal takes, or that is recovered
abbrev pub with_begun : Event → List (List ℕ) → List ℕ → List ℕ
with_begun (Propose client request command seen spared) frames is = with_taken frames is
with_begun (Handle b) frames is = is
with_begun (GiveUp i) frames is = is
with_begun (Recover i) frames is = union (i ∷ []) is
with_begun (Execute i) frames is = is

module _ (part : Selection) where
  -- the instances is, and those that the entries of replica r propose or recover that are asked for
  abbrev pub begun_in : ℕ → List Entry → List ℕ → List ℕ
  begun_in r [] is = is
  begun_in r (e ∷ es) is = begun_in r es (cond (keeps part r e) (with_begun e.event e.frames is) is)

  -- of the replicas below n
  abbrev pub begun_below : Collected → ℕ → List ℕ
  begun_below c zero = []
  begun_below c (suc n) = begun_in n (entries_at c n) (begun_below c n)

-- all of them
abbrev pub begun : Selection → Collected → List ℕ
begun part c = begun_below part c (size c.faults)

-- Which dependencies are drawn.

-- the dependencies of a decree that are kept, the greatest first
abbrev pub near : List ℕ → Decree → List ℕ
near kept x = reverse (filter (is_one_of kept) x.attrs.deps)

-- a decree depends on j, and its seq lies between these two
abbrev pub lies_between : ℕ → ℕ → ℕ → Option Decree → Bool
lies_between j low high None = false
lies_between j low high (Some x) = (nat_lt low x.attrs.seq && nat_lt x.attrs.seq high) && is_one_of x.attrs.deps j

module _ (c : Collected) where
  -- what is committed in one of these instances does
  abbrev pub some_between : List ℕ → ℕ → ℕ → ℕ → Bool
  some_between [] j low high = false
  some_between (k ∷ ks) j low high = cond (lies_between j low high (agreed_in c k)) true (some_between ks j low high)

  abbrev pub is_implied_by : List ℕ → ℕ → ℕ → Option Decree → Bool
  is_implied_by near j high None = false
  is_implied_by near j high (Some x) = some_between near j x.attrs.seq high

  -- the dependency of what has this seq on j is implied by others of its dependencies, `near`: one of them depends on j too, and its seq lies between theirs
  abbrev pub is_implied : List ℕ → ℕ → ℕ → Bool
  is_implied near high j = is_implied_by near j high (agreed_in c j)

  -- the dependencies of a decree that are drawn: those that no kept one implies
  abbrev pub drawn : List ℕ → Decree → List ℕ
  drawn kept x = filter (λ j. not (is_implied (near kept x) x.attrs.seq j)) x.attrs.deps

-- The text.

-- the first reply to an instance
abbrev pub reply_in : List Happening → ℕ → Option Reply
reply_in [] i = None
reply_in (h ∷ hs) i = cond (eqb h.instance i) (Some h.reply) (reply_in hs i)

-- a reply, on a line of its own
abbrev pub replied : Option Reply → List ℕ
replied None = []
replied (Some reply) = codes "\\n" ++ dot_words (reply_text reply)

abbrev pub node_start : ℕ → List ℕ
node_start i = codes "  \"" ++ instance_text i ++ codes "\" [style=solid, label=\"" ++ instance_text i ++ codes " "

-- what is committed in instance i: its command, and the reply
abbrev pub node_text : ℕ → Decree → Option Reply → List ℕ
node_text i x reply = node_start i ++ dot_words (command_text x.command) ++ replied reply ++ codes "\"];\n"

-- that instance i depends on j
abbrev pub edge_text : ℕ → ℕ → List ℕ
edge_text i j = codes "  \"" ++ instance_text i ++ codes "\" -> \"" ++ instance_text j ++ codes "\";\n"

abbrev pub edges_text : ℕ → List ℕ → List ℕ
edges_text i [] = []
edges_text i (j ∷ js) = edge_text i j ++ edges_text i js

module _ (c : Collected) (history : List Happening) (kept : List ℕ) where
  -- of what is committed in instance i: its node and its edges
  abbrev pub lines_of : ℕ → Option Decree → List ℕ
  lines_of i None = []
  lines_of i (Some x) = node_text i x (reply_in history i) ++ edges_text i (drawn c kept x)

  abbrev pub lines_in : List ℕ → List ℕ
  lines_in [] = []
  lines_in (i ∷ is) = lines_of i (agreed_in c i) ++ lines_in is

abbrev pub generation_title : ℕ → Opening → List ℕ
generation_title g o = codes "  labelloc=t;\n  label=\"" ++ dot_words (edition_text g o) ++ codes "\";\n"

-- in version 3 the title, which is the generation and what it begins with
abbrev pub edition_title : Version → Opening → List ℕ
edition_title V1 o = []
edition_title V2 o = []
edition_title (V3 g) o = generation_title g o

-- a node that has no line of its own is dashed
unfoldable pub graph_start : List ℕ
graph_start = codes "digraph dependencies {\n  rankdir=BT;\n  node [shape=box, style=dashed, fontname=\"monospace\"];\n"

abbrev pub graph_text : List ℕ → List ℕ → List ℕ
graph_text edition lines = graph_start ++ edition ++ lines ++ codes "}\n"

-- the graph of these instances, where this is the history
abbrev pub whole_text : Collected → List Happening → List ℕ → List ℕ
whole_text c history kept = graph_text (edition_title c.version c.opening) (lines_in c history kept kept)

-- this is the journals' history
pub record IsHistoryOf (c : Collected) (history : List Happening) : Type 0 where
  pub summary : Summary
  pub is_summary : IsSummary (opens c.opening) c.faults (journals_of c) summary
  pub is : history ≡ summary.history.items

-- The graph has the journals' edition, and in rising order each committed instance that an entry proposes or recovers that is asked for, with the reply of
-- the journals' history, and with its dependencies but for those that others which are kept imply.
pub record IsGraph (c : Collected) (part : Selection) (text : List ℕ) : Type 0 where
  pub history : List Happening
  pub is_history : IsHistoryOf c history
  pub is : text ≡ whole_text c history (begun part c)
