pub mod Classifiers
