pub mod FigureAt
pub mod Gathering
pub mod Looking
