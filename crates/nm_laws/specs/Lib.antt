pub mod Cardinality
pub mod LeafPaths
pub mod KeptEdges
