-- docs/RULES.md has these rules in words, each beside its definition.
pub mod Rules
